-- The lines of VALUES, both ways: the reader has a line's value before it asks for its string.
use Rattle.std.specs.Prelude.{◌≡◌, Bool, true, false, ◌||◌, eqb}
use Rattle.std.proofs.Math.Path.{refl}
use Rattle.std.proofs.Common.{◌∙◌, ap, arith, length-append}
use mathlib.Core.List.{List, [], ◌∷◌, ◌++◌, append_assoc}
use Prim.Native.Nat.{ℕ, zero, suc, ◌+◌, ◌-◌, ◌≤◌, ◌<◌}
use Rattle.std.proofs.Math.ListN.{length}
use borrow.Author.Tests.{eqb-true, leb-false}
use Rattle.scan.specs.rule.Text.{sign, text}
use Rattle.scan.specs.rule.Text as scan
use Rattle.scan.specs.rule.Loop.{Again, Done}
use Rattle.scan.specs.rule.Number.{is_digit, is_value}
use Rattle.scan.specs.rule.Word.{word_at}
use Rattle.scan.specs.Word.{capitals, Either, capital, small, Written}
use Rattle.scan.specs.Word as written
use Rattle.scan.specs.declared.Word.{Word}
use Rattle.scan.specs.declared.Word.TheVariants as spelled
use Rattle.scan.proofs.Keywords.{word_exactly}
use Rattle.scan.proofs.Orders.{digit_bounds}
use Rattle.tokens.specs.declared.Fault.{Fault}
use Rattle.statements.specs.rule.Words.{END, VALUES, SPECIAL}
use Rattle.survey.specs.rule.Survey.{Amount, KeptText, Block}
use Rattle.survey.specs.rule.Survey as says
use Rattle.reading.specs.rule.Result.{Result, Is, Not, Reader, bind, turn, repeat}
use Rattle.reading.specs.rule.Least.{named}
use Rattle.reading.specs.rule.Token.{on_word, either, amount}
use Rattle.reading.specs.rule.Statement.{notes}
use Rattle.reading.specs.rule.Values.{line_charges, listing, with_line, end_values, line, listed}
use Rattle.bridge.specs.Lowest.{never, clear, Judged, fine, faulty, judged_view}
use Rattle.grammar.specs.Token.{Gap, Here, NoWord, Keyword, Run, Value, String, Notes, End, Whether}
use Rattle.grammar.specs.Token as token
use Rattle.grammar.specs.Grammar.{Line, Lines}
use Rattle.grammar.specs.Grammar as grammar
use Rattle.grammar.specs.Faults.{Clean, line_faults}
use Rattle.grammar.specs.Refusal.{inside, behind, only, WordStops, ValueStops, Noted, noted, NotesStops}
use Rattle.grammar.specs.Refusal.{LineRead}
use Rattle.grammar.specs.Refusal.{LineStops, LinesStops}
use Rattle.grammar.specs.Refusal as refusal
use Rattle.grammar_laws.specs.Views.{View, reads, halts, recast, then, no_word, word_at_lem, word_not, then_halted, judge, judged_there}
use Rattle.grammar_laws.specs.Views.{judged_halted, clean_both, clean_left, clean_right}
use Rattle.grammar_laws.specs.Places.{gap_stays, gap_join, differ, other_word}
use Rattle.grammar_laws.specs.Tokens.{word_view, word_is, word_halted, amount_view, amount_is, amount_not, string_view, string_is}
use Rattle.grammar_laws.specs.Tokens.{string_halted, whether_view, whether_is, whether_not}
use Rattle.grammar_laws.specs.Notes.{note_capitals, notes_view, notes_is, notes_halted}

-- ---- no keyword stands where a value or a quote does
value_small : (b : ℕ) → is_value b ≡ true → b < 65
unfolding is_value
value_small b = by (is_digit b) (eqb b 43) (eqb b 45) (eqb b 46) refl refl refl refl where
  by : (p q r s : Bool) → is_digit b ≡ p → eqb b 43 ≡ q → eqb b 45 ≡ r → eqb b 46 ≡ s → (p || (q || (r || s))) ≡ true → b < 65
  by true q r s i j k l m = let c = (digit_bounds b i).1 in omega arith
  by false true r s i j k l m = let c = eqb-true b 43 j in omega arith
  by false false true s i j k l m = let c = eqb-true b 45 k in omega arith
  by false false false true i j k l m = let c = eqb-true b 46 l in omega arith
  by false false false false i j k l m = never cc

letter_high : {x b : ℕ} → 65 ≤ x → Either x b → 65 ≤ b
letter_high h capital = h
letter_high h small = omega arith

first_letter : {n m p b x : ℕ} {w : List ℕ} {t : scan.Text} → 65 ≤ x → Written (x ∷ w) n (sign p b t) m → 65 ≤ b
first_letter h (written.one e r) = letter_high h e

run_no_word : {n m k b x : ℕ} {s w : List ℕ} {t : scan.Text} → 65 ≤ x → Run is_value n t (b ∷ s) m → Written (x ∷ w) n t k → ⊥
run_no_word {x = x} h (token.more {b = b} e r) v = let i = value_small b e in let j = first_letter h v in omega arith

-- the lines of b, and more
abbrev pub with_lines : Block → List says.Line → Block
with_lines b l = record { range = b.range; lines = b.lines ++ l }

abbrev pub line_from : Amount → KeptText → Bool → says.Line
line_from a t s = record { value = a; text = t; special = s }

lines_more : (b : Block) (x : says.Line) (l : List says.Line) → with_lines (with_line b x) l ≡ with_lines b (x ∷ l)
lines_more b x l = ap (λ (k : List says.Line). the b k) (append_assoc b.lines (x ∷ []) l) where
  the : Block → List says.Line → Block
  the b k = record { range = b.range; lines = k }

module _ (d : List ℕ) where
  pub value_no_word : {n m : ℕ} {a : Amount} (x : ℕ) (w : List ℕ) → 65 ≤ x → Value d n a m → NoWord d (x ∷ w) n
  value_no_word x w h (token.value r) k v = run_no_word h r v

  quote_word : {n p k x : ℕ} {w : List ℕ} {t u : scan.Text} → 65 ≤ x → t ≡ sign p 34 u → Written (x ∷ w) n t k → ⊥
  quote_word h e v = let i = first_letter h (rw e at v) in omega arith

  pub quote_no_word : {n p : ℕ} (x : ℕ) (w : List ℕ) → 65 ≤ x → text d n ≡ sign p 34 (text d (p + 1)) → NoWord d (x ∷ w) n
  quote_no_word x w h e k v = quote_word h e v

  -- ---- lines from behind the value of the first
  pub data Tail : Amount → ℕ → List says.Line → ℕ → Type 0 where
    last : {a : Amount} {t : KeptText} {s : Bool} {n k j m : ℕ} → String d n t k → Whether d SPECIAL k s j → End d VALUES j m
        → Tail a n (line_from a t s ∷ []) m
    more : {a c : Amount} {t : KeptText} {s : Bool} {l : List says.Line} {n k j i h m : ℕ} → String d n t k → Whether d SPECIAL k s j
        → Notes d j i → Value d i c h → Tail c h l m → Tail a n (line_from a t s ∷ l) m

  pub lines_of_lem : {a : Amount} {l : List says.Line} {n k j m : ℕ} → Notes d n k → Value d k a j → Tail a j l m → Lines d n l m
  lines_of_lem s v (last t w e) = grammar.last (grammar.line s v t w) e
  lines_of_lem s v (more t w r u x) = grammar.Lines.more (grammar.line s v t w) (lines_of_lem r u x)

  pub data Headed (n : ℕ) (l : List says.Line) (m : ℕ) : Type 0 where
    headed : {a : Amount} {k j : ℕ} → Notes d n k → Value d k a j → Tail a j l m → Headed n l m

  one_more : {n k m : ℕ} {x : says.Line} {l : List says.Line} → Line d n x k → Headed k l m → Headed n (x ∷ l) m
  one_more (grammar.line s v t w) (headed s' v' x) = headed s v (more t w s' v' x)

  pub lines_headed : {n m : ℕ} {l : List says.Line} → Lines d n l m → Headed n l m
  lines_headed (grammar.last (grammar.line s v t w) e) = headed s v (last t w e)
  lines_headed (grammar.Lines.more x r) = one_more x (lines_headed r)

  -- they may be read from behind the gap before the string, and from before it
  pub tail_back : {a : Amount} {l : List says.Line} {n k m : ℕ} → Gap d n k → Tail a k l m → Tail a n l m
  tail_back g (last (token.string h e s) w x) = last (token.string (gap_join d g h) e s) w x
  tail_back g (more (token.string h e s) w r v x) = more (token.string (gap_join d g h) e s) w r v x

  pub data Fore (a : Amount) (n : ℕ) (l : List says.Line) (m : ℕ) : Type 0 where
    fore : {k p : ℕ} → Gap d n k → text d k ≡ sign p 34 (text d (p + 1)) → Tail a k l m → Fore a n l m

  pub tail_fore : {a : Amount} {l : List says.Line} {n m : ℕ} → Tail a n l m → Fore a n l m
  tail_fore (last (token.string h e s) w x) = fore h e (last (token.string (gap_stays d h) e s) w x)
  tail_fore (more (token.string h e s) w r v x) = fore h e (more (token.string (gap_stays d h) e s) w r v x)

  module _ (quantity : Bool) (before : ℕ) where
    -- ---- one line
    pub line_view : (b : Block) (a : Amount) (n : ℕ)
        → View (LineRead d quantity before b a n) (LineStops d quantity before b a n) (line d quantity before b a n)
    unfolding line capitals
    line_view b a n =
        then (string_view d n) λ t k x.
        then (whether_view d {w = SPECIAL} refl k) λ s m w.
        judge (line_charges quantity before b a) (line_from a t s) m (λ c. refusal.line x w c)

    pub line_is : (b : Block) (a : Amount) {n m : ℕ} {l : says.Line} → LineRead d quantity before b a n l m
        → line d quantity before b a n ≡ Is l m
    unfolding line capitals
    line_is b a {m = m} (refusal.line {t = t} {s = s} x w c) =
        rw (string_is d x, whether_is d {w = SPECIAL} refl w) (judged_there (line_charges quantity before b a) (line_from a t s) m c)

    pub line_halted : (b : Block) (a : Amount) (n : ℕ) {f : Fault} → LineStops d quantity before b a n f
        → line d quantity before b a n ≡ Not f
    unfolding line capitals
    line_halted b a n =
        then_halted _ _ (λ f. string_halted d n) (λ t m. string_is d) λ t k f.
        then_halted _ _ (λ f. whether_not d SPECIAL) (λ s m. whether_is d {w = SPECIAL} refl) λ s m f.
        judged_halted (line_charges quantity before b a) (line_from a t s) m

    -- a line that was read is one of 4,096 at most
    pub line_few : (b : Block) (a : Amount) → Clean (line_charges quantity before b a) → before + length b.lines < 4096
    unfolding line_charges
    line_few b a c = by (judged_view (line_charges quantity before b a) (tt {0}) 0) (judged_there (line_charges quantity before b a) tt 0 c)
      where
        by : {r : Result Unit} → Judged (line_charges quantity before b a) tt 0 r → r ≡ Is tt 0 → before + length b.lines < 4096
        by (fine (clear p (clear q (clear r (clear s (clear t z)))))) e = leb-false 4096 (before + length b.lines) t
        by faulty e = never cc

    -- ---- all of them
    pub data LinesRead (b : Block) (a : Amount) (n : ℕ) : Block → ℕ → Type 0 where
      lines_read : {l : List says.Line} {m : ℕ} → Tail a n l m → Clean (line_faults quantity before b l)
          → LinesRead b a n (with_lines b l) m

    abbrev loop : ℕ → Block → Amount → Reader Block
    loop f b a = repeat f (listed d quantity before) (listing b a)

    abbrev Few : ℕ → Block → Type 0
    Few f b = 4096 - (before + length b.lines) < f

    next_few : {f : ℕ} (b : Block) (x : says.Line) → before + length b.lines < 4096 → Few (suc f) b → Few f (with_line b x)
    next_few b x h l = rw (length-append b.lines (x ∷ [])) (omega arith)

    finish : {b : Block} {a : Amount} {x : says.Line} {n k j i m : ℕ} → LineRead d quantity before b a n x k → Noted d k j → Here d END j i
        → Keyword d VALUES i m → LinesRead b a n (with_line b x) m
    unfolding line_faults named
    finish (refusal.line t w c) (noted s o) h v = lines_read (last t w (token.end (token.statement s h) v)) (clean_both (line_charges
        quantity before _ _) [] c refl)

    continue : {b c : Block} {a u : Amount} {x : says.Line} {n k j i m : ℕ} → LineRead d quantity before b a n x k → Noted d k j
        → Value d j u i
        → LinesRead (with_line b x) u i c m → LinesRead b a n c m
    unfolding line_faults
    continue {b} {x = x} (refusal.line t w c) (noted s o) v (lines_read {l = l} r e) =
        rw (lines_more b x l) (lines_read (more t w s v r) (clean_both (line_charges quantity before b x.value) (line_faults quantity
        before (with_line b x) l) c e))

    abbrev Goal : Block → Amount → ℕ → Result Block → Type 0
    Goal b a n = View (LinesRead b a n) (LinesStops d quantity before b a n)

    abbrev Viewed : ℕ → Type 0
    Viewed f = (b : Block) (a : Amount) (n : ℕ) → Few f b → Goal b a n (loop f b a n)

    loop_view : (f : ℕ) (b : Block) (a : Amount) (n : ℕ) → Few f b
        → View (LinesRead b a n) (LinesStops d quantity before b a n) (loop f b a n)
    unfolding repeat listed capitals
    loop_view zero b a n l = absurd (omega arith)
    loop_view (suc f) b a n l = at_line (line_view b a n) (loop_view f) where
      few : {x : says.Line} {k : ℕ} → LineRead d quantity before b a n x k → before + length b.lines < 4096
      few (refusal.line t w c) = line_few b a c

      ends : {x : says.Line} {k j i : ℕ} → LineRead d quantity before b a n x k → Noted d k j → Here d END j i → {r : Result Unit}
          → View (only (Keyword d VALUES i)) (WordStops d VALUES i) r
          → Goal b a n (bind (bind (bind r λ u m. Is (with_line b x) m) λ b m. Is (Done b) m) (turn (repeat f (listed d quantity before))))
      ends y s h (reads v) = reads (finish y s h v)
      ends y s h (halts z) = halts (refusal.in_line (behind y (behind s (refusal.stands h z))))

      valued : {x : says.Line} {k j : ℕ} → Viewed f → LineRead d quantity before b a n x k → Noted d k j → NoWord d END j
          → {r : Result Amount}
          → View (Value d j) (ValueStops d j) r
          → Goal b a n (bind (bind r λ a m. Is (Again (listing (with_line b x) a)) m) (turn (repeat f (listed d quantity before))))
      valued {x} ih y s o (reads {a = u} {m = i} v) =
          recast (λ c m. continue y s v) (λ f. refusal.LinesStops.later y s o v) (ih (with_line b x) u i (next_few b x (few y) l))
      valued ih y s o (halts z) = halts (refusal.in_line (behind y (behind s (refusal.absent o z))))

      at_end_lem : (x : says.Line) {k : ℕ} (j : ℕ) → Viewed f → LineRead d quantity before b a n x k → Noted d k j → (w : Word)
          → word_at d j END ≡ w
          → Goal b a n (bind (on_word (λ e. bind (end_values d (with_line b x) e) λ b m. Is (Done b) m)
          (λ i. bind (amount d i) λ a m. Is (Again (listing (with_line b x) a)) m) j w) (turn (repeat f (listed d quantity before))))
      at_end_lem x j ih y s (spelled.Matched i) e = ends y s ((word_exactly d j i END refl).0 e) (word_view d {w = VALUES} refl i)
      at_end_lem x j ih y s spelled.Not e = valued ih y s (no_word d refl e) (amount_view d j)

      at_notes : (x : says.Line) {k : ℕ} → Viewed f → LineRead d quantity before b a n x k → {r : Result Unit}
          → View (only (Noted d k)) (NotesStops d k) r
          → Goal b a n (bind (bind r λ u. either d END (λ e. bind (end_values d (with_line b x) e) λ b m. Is (Done b) m)
          (λ i. bind (amount d i) λ a m. Is (Again (listing (with_line b x) a)) m)) (turn (repeat f (listed d quantity before))))
      at_notes x ih y (reads {m = j} s) = at_end_lem x j ih y s (word_at d j END) refl
      at_notes x ih y (halts z) = halts (refusal.in_line (behind y (inside z)))

      at_line : {r : Result says.Line} → View (LineRead d quantity before b a n) (LineStops d quantity before b a n) r → Viewed f
          → Goal b a n (bind (bind r λ x n. bind (notes d n) λ u. either d END
          (λ e. bind (end_values d (with_line b x) e) λ b m. Is (Done b)
          m)
          (λ i. bind (amount d i) λ a m. Is (Again (listing (with_line b x) a)) m)) (turn (repeat f (listed d quantity before))))
      at_line (reads {a = x} {m = k} y) ih = at_notes x ih y (notes_view d k)
      at_line (halts z) ih = halts (refusal.in_line (inside z))

    loop_is : {a : Amount} {l : List says.Line} {n m : ℕ} → Tail a n l m → (b : Block) → Clean (line_faults quantity before b l) → (f : ℕ)
        → Few f b → loop f b a n ≡ Is (with_lines b l) m
    unfolding repeat listed line_faults capitals differ
    loop_is r b c zero h = absurd (omega arith)
    loop_is {a} (last {t = t} {s = s} x w (token.end (token.statement n h) v)) b c (suc f) l =
        rw (
          line_is b a (refusal.line x w (clean_left (line_charges quantity before b a) [] c)),
          notes_is d (noted n (other_word d refl note_capitals refl h)),
          word_at_lem d {w = END} refl h,
          word_is d {w = VALUES} refl v,
        )
    loop_is {a} (more {c = u} {t = t} {s = s} {l = k} x w n v r) b c (suc f) l =
        let e = clean_left (line_charges quantity before b a) (line_faults quantity before (with_line b (line_from a t s)) k) c in
        let g = clean_right (line_charges quantity before b a) (line_faults quantity before (with_line b (line_from a t s)) k) c in
        rw (
          line_is b a (refusal.line x w e),
          notes_is d (noted n (value_no_word 78 (79 ∷ 84 ∷ 69 ∷ []) (omega arith) v)),
          word_not d {w = END} refl (value_no_word 69 (78 ∷ 68 ∷ []) (omega arith) v),
          amount_is d v,
        )
        (loop_is r (with_line b (line_from a t s)) g f (next_few b (line_from a t s) (line_few b a e) l)
        ∙ rw (lines_more b (line_from a t s)
        k))

    loop_halted : {b : Block} {a : Amount} {n : ℕ} {f : Fault} → LinesStops d quantity before b a n f → (g : ℕ) → Few g b
        → loop g b a n ≡ Not f
    unfolding repeat listed capitals
    loop_halted z zero l = absurd (omega arith)
    loop_halted {b} {a} {n} (refusal.in_line (inside z)) (suc g) l = rw (line_halted b a n z)
    loop_halted {b} {a} (refusal.in_line (behind {m = k} y (inside z))) (suc g) l = rw (line_is b a y, notes_halted d k z)
    loop_halted {b} {a} (refusal.in_line (behind y (behind s (refusal.stands {m = i} h z)))) (suc g) l =
        rw (line_is b a y, notes_is d s, word_at_lem d {w = END} refl h, word_halted d {w = VALUES} refl i z)
    loop_halted {b} {a} (refusal.in_line (behind y (behind s (refusal.absent o z)))) (suc g) l =
        rw (line_is b a y, notes_is d s, word_not d {w = END} refl o, amount_not d z)
    loop_halted {b} {a} (refusal.LinesStops.later {l = x} y s o v z) (suc g) l =
        rw (line_is b a y, notes_is d s, word_not d {w = END} refl o, amount_is d v) (loop_halted z g (next_few b x (few y) l)) where
          few : {x : says.Line} {n k : ℕ} → LineRead d quantity before b a n x k → before + length b.lines < 4096
          few (refusal.line t w c) = line_few b a c

    pub lines_view : (b : Block) (a : Amount) (n : ℕ) → View (LinesRead b a n) (LinesStops d quantity before b a n) (loop 4097 b a n)
    lines_view b a n = loop_view 4097 b a n (omega arith)

    pub lines_is : {a : Amount} {l : List says.Line} {n m : ℕ} (b : Block) → Tail a n l m → Clean (line_faults quantity before b l)
        → loop 4097 b a n ≡ Is (with_lines b l) m
    lines_is b r c = loop_is r b c 4097 (omega arith)

    pub lines_halted : (b : Block) (a : Amount) (n : ℕ) {f : Fault} → LinesStops d quantity before b a n f → loop 4097 b a n ≡ Not f
    lines_halted b a n z = loop_halted z 4097 (omega arith)
