-- Notes, and a statement's word behind them, both ways.
use Rattle.std.specs.Prelude.{◌≡◌, refl, true, List, [], ◌∷◌, length, Ok, Err}
use Rattle.std.proofs.Common.{sym, ◌∙◌}
use Prim.Native.Nat.{ℕ, zero, suc, ◌+◌, ◌-◌, ◌≤◌, ◌<◌}
use native.Mathlib.Omega.{arith}
use Rattle.scan.specs.rule.Text.{sign, text}
use Rattle.scan.specs.rule.Loop.{Again, Done}
use Rattle.scan.specs.rule.Word.{word_at}
use Rattle.scan.specs.Word.{capitals}
use Rattle.scan.specs.declared.Word.{Word}
use Rattle.scan.specs.declared.Word.TheVariants as spelled
use Rattle.scan.proofs.Keywords.{word_exactly}
use Rattle.scan.proofs.Texts.{from_text}
use Rattle.marks.specs.declared.Inside.TheVariants.{Plain}
use Rattle.marks.proofs.Complete.{string_complete}
use Rattle.marks.proofs.Levels.{ahead, string_ahead}
use Rattle.tokens.specs.declared.Fault.{Fault}
use Rattle.tokens.specs.rule.Gap.{gap_at, OrFault}
use Rattle.tokens.specs.Gap.{left}
use Rattle.tokens.specs.Token.{choice_of}
use Rattle.tokens.proofs.Aheads.{taken_less}
use Rattle.statements.specs.rule.Words.{NOTE}
use Rattle.survey.specs.rule.Survey.{KeptText}
use Rattle.reading.specs.rule.Result.{Result, Is, Not, Reader, bind, turn, repeat}
use Rattle.reading.specs.rule.Token.{passed, on_word, gap, here, string}
use Rattle.reading.specs.rule.Statement.{note, notes, statement, phrase}
use Rattle.bridge.specs.Lowest.{never}
use Rattle.bridge.specs.Facts.{gap_ahead}
use Rattle.grammar.specs.Token.{Gap, Here, NoWord, Keyword, keyword, String, Notes, Statement, Phrase}
use Rattle.grammar.specs.Token as token
use Rattle.grammar.specs.Refusal.{only, GapStops, StringStops, Noted, noted, NotesStops}
use Rattle.grammar.specs.Refusal.{in_gap, in_note, later, StatementStops, PhraseStops}
use Rattle.grammar_laws.specs.Views.{View, reads, halts, recast, then, no_word, word_at_lem, word_not, then_halted}
use Rattle.grammar_laws.specs.Places.{Stood, byte, gap_stood, gap_there, gap_stays, gap_join, differ, other_word}
use Rattle.grammar_laws.specs.Places as places
use Rattle.grammar_laws.specs.Tokens.{gap_view, gap_not, here_view, here_not}
use Rattle.grammar_laws.specs.Tokens.{string_view, string_is, string_halted}

pub note_capitals : capitals NOTE ≡ true
unfolding capitals
note_capitals = refl

module _ (d : List ℕ) where
  -- ---- tokens lead on
  pub word_less : (n : ℕ) {m : ℕ} (x : ℕ) (w : List ℕ) → word_at d n (x ∷ w) ≡ spelled.Matched m → length d - m < length d - n
  unfolding choice_of left
  word_less n {m} x w e = let l = taken_less d (Ok n) x w {m = m} (rw e) in omega arith

  pub string_rises : {n m : ℕ} {t : KeptText} → String d n t m → n ≤ m
  string_rises {n} (token.string {k = k} {p = p} {m = m} g e s) =
      let a = gap_ahead d (gap_there d g) in
      let b = ahead (string_ahead d (from_text d (p + 1)) Plain) (string_complete s) in
      let c = same (gap_stood d g) e in
      omega arith
    where
      same : {k p : ℕ} → Stood d k → text d k ≡ sign p 34 (text d (p + 1)) → k ≡ p
      same (byte f h i) e = let j = sym f ∙ e in cc
      same (places.end f) e = let j = sym f ∙ e in never cc

  -- ---- the loop, behind its gap
  abbrev turns : ℕ → Reader Unit
  turns g n = bind (gap d n) λ u. repeat g (note d) tt

  abbrev Enough : ℕ → ℕ → Type 0
  Enough g n = (p : ℕ) → Gap d n p → length d - p < g

  again_gap : (g n : ℕ) → bind (bind (gap d n) λ a m. Is (Again (tt {0})) m) (turn (repeat g (note d))) ≡ turns g n
  again_gap g n = by (gap_at d n) where
    by : (t : OrFault ℕ) → bind (bind (passed t) λ a m. Is (Again (tt {0})) m) (turn (repeat g (note d))) ≡ bind (passed t) λ u. repeat g
        (note d) tt
    by (Ok m) = refl
    by (Err f) = refl

  next_enough : {g p k j : ℕ} {t : KeptText} → length d - p < suc g → Here d NOTE p k → String d k t j → Enough g j
  next_enough {p = p} {k = k} {j = j} l h s q g' =
      let a = word_less p {m = k} 78 (79 ∷ 84 ∷ 69 ∷ []) (word_at_lem d note_capitals h) in
      let b = string_rises s in
      let c = gap_ahead d (gap_there d g') in
      omega arith

  one_more : {n k j m : ℕ} {t : KeptText} → Keyword d NOTE n k → String d k t j → Noted d j m → Noted d n m
  one_more w s (noted r o) = noted (token.note w s r) o

  abbrev Viewed : ℕ → Type 0
  Viewed f = (n : ℕ) → Enough f n → View (only (Noted d n)) (NotesStops d n) (turns f n)

  loop_view : (g n : ℕ) → Enough g n → View (only (Noted d n)) (NotesStops d n) (turns g n)
  unfolding repeat
  loop_view zero n l = by (gap_view d n) where
    by : {r : Result Unit} → View (only (Gap d n)) (GapStops d n) r
        → View (only (Noted d n)) (NotesStops d n) (bind r λ u. repeat zero (note d) tt)
    by (reads {m = p} g) = let h = l p g in absurd (omega arith)
    by (halts z) = halts (in_gap z)
  loop_view (suc f) n l = by (gap_view d n) (loop_view f) where
    texted : {p k : ℕ} → Viewed f → Gap d n p → Here d NOTE p k → {r : Result KeptText} → View (String d k) (StringStops d k) r
        → View (only (Noted d n)) (NotesStops d n) (bind (bind r λ t k. bind (gap d k) λ a m. Is (Again tt) m) (turn (repeat f (note d))))
    texted {p} ih g h (reads {m = j} s) =
        rw (again_gap f j) (recast (λ u m. one_more (keyword g h) s) (λ f. later (keyword g h) s) (ih j (next_enough (l p g) h s)))
    texted ih g h (halts z) = halts (in_note (keyword g h) z)

    at_word : (p : ℕ) → Viewed f → Gap d n p → (x : Word) → word_at d p NOTE ≡ x
        → View (only (Noted d n)) (NotesStops d n)
        (bind (on_word (λ k. bind (string d k) λ t k. bind (gap d k) λ a m. Is (Again tt) m) (λ m. Is (Done tt) m) p x) (turn (repeat f
        (note d))))
    at_word p ih g (spelled.Matched k) e = texted ih g ((word_exactly d p k NOTE note_capitals).0 e) (string_view d k)
    at_word p ih g spelled.Not e = reads (noted (token.no_more g) (no_word d note_capitals e))

    by : {r : Result Unit} → View (only (Gap d n)) (GapStops d n) r → Viewed f
        → View (only (Noted d n)) (NotesStops d n) (bind r λ u. repeat (suc f) (note d) tt)
    by (reads {m = p} g) ih = at_word p ih g (word_at d p NOTE) refl
    by (halts z) ih = halts (in_gap z)

  loop_is : {n m : ℕ} → Notes d n m → NoWord d NOTE m → (g : ℕ) → Enough g n → turns g n ≡ Is tt m
  unfolding repeat
  loop_is (token.no_more {m = m} a) o zero l = let h = l m a in absurd (omega arith)
  loop_is (token.no_more a) o (suc g) l = rw (gap_there d a, word_not d note_capitals o)
  loop_is (token.note (keyword {k = p} a h) s r) o zero l = let h = l p a in absurd (omega arith)
  loop_is (token.note (keyword {k = p} a h) (token.string {m = j} b e s) r) o (suc g) l =
      rw (gap_there d a, word_at_lem d note_capitals h, string_is d (token.string b e s))
      (again_gap g j ∙ loop_is r o g (next_enough (l p a) h (token.string b e s)))

  loop_halted : {n : ℕ} {f : Fault} → NotesStops d n f → (g : ℕ) → Enough g n → turns g n ≡ Not f
  unfolding repeat
  loop_halted (in_gap z) g l = rw (gap_not d z)
  loop_halted (in_note (keyword {k = p} a h) z) zero l = let h = l p a in absurd (omega arith)
  loop_halted (in_note (keyword {k = p} {m = k} a h) z) (suc g) l = rw (gap_there d a, word_at_lem d note_capitals h, string_halted d k z)
  loop_halted (later (keyword {k = p} a h) s z) zero l = let h = l p a in absurd (omega arith)
  loop_halted (later {j = j} (keyword {k = p} a h) s z) (suc g) l =
      rw (gap_there d a, word_at_lem d note_capitals h, string_is d s) (again_gap g j ∙ loop_halted z g (next_enough (l p a) h s))

  enough : (n : ℕ) → Enough (suc (length d)) n
  enough n p g = omega arith

  pub notes_view : (n : ℕ) → View (only (Noted d n)) (NotesStops d n) (notes d n)
  unfolding notes
  notes_view n = loop_view (suc (length d)) n (enough n)

  pub notes_is : {n m : ℕ} → Noted d n m → notes d n ≡ Is tt m
  unfolding notes
  notes_is {n} (noted s o) = loop_is s o (suc (length d)) (enough n)

  pub notes_halted : (n : ℕ) {f : Fault} → NotesStops d n f → notes d n ≡ Not f
  unfolding notes
  notes_halted n z = loop_halted z (suc (length d)) (enough n)

  -- ---- notes end where they stand, and two stretches of them are one
  pub notes_gap : {n m : ℕ} → Notes d n m → Gap d m m
  notes_gap (token.no_more g) = gap_stays d g
  notes_gap (token.note w s r) = notes_gap r

  pub notes_after_gap : {n p m : ℕ} → Gap d n p → Notes d p m → Notes d n m
  notes_after_gap g (token.no_more h) = token.no_more (gap_join d g h)
  notes_after_gap g (token.note (keyword h w) s r) = token.note (keyword (gap_join d g h) w) s r

  pub notes_join : {n k m : ℕ} → Notes d n k → Notes d k m → Notes d n m
  notes_join (token.no_more g) r = notes_after_gap g r
  notes_join (token.note w s a) r = token.note w s (notes_join a r)

  -- ---- a statement's word
  module _ {w : List ℕ} (c : capitals w ≡ true) where
    pub statement_view : (n : ℕ) → View (only (Statement d w n)) (StatementStops d w n) (statement d w n)
    unfolding statement
    statement_view n = then (notes_view n) (λ u m s. recast (λ u o h. on s h) (λ f z. z) (here_view d c m)) where
      on : {m o : ℕ} → Noted d n m → Here d w m o → Statement d w n o
      on (noted s o) h = token.statement s h

    pub statement_halted : (n : ℕ) {f : Fault} → StatementStops d w n f → statement d w n ≡ Not f
    unfolding statement
    statement_halted n = then_halted (notes d n) (λ u. here d w) (λ f. notes_halted n) (λ u m. notes_is) (λ u m f. here_not d c)

    module _ (o : differ w NOTE ≡ true) where
      pub statement_is : {n m : ℕ} → Statement d w n m → statement d w n ≡ Is tt m
      unfolding statement
      statement_is (token.statement s h) = rw (notes_is (noted s (other_word d c note_capitals o h)), word_at_lem d c h)

      pub phrase_is : {n m : ℕ} {t : KeptText} → Phrase d w n t m → phrase d w n ≡ Is t m
      unfolding phrase
      phrase_is (token.phrase s x) = rw (statement_is s) (string_is d x)

      pub phrase_halted : (n : ℕ) {f : Fault} → PhraseStops d w n f → phrase d w n ≡ Not f
      unfolding phrase
      phrase_halted n = then_halted (statement d w n) (λ u. string d) (λ f. statement_halted n) (λ u m. statement_is) (λ u m f.
          string_halted d m)

    pub phrase_view : (n : ℕ) → View (Phrase d w n) (PhraseStops d w n) (phrase d w n)
    unfolding phrase
    phrase_view n = then (statement_view n) (λ u m s. recast (λ t o x. token.phrase s x) (λ f z. z) (string_view d m))
