-- A variable from VARIABLE to END VARIABLE, by type, both ways.
use Rattle.std.specs.Prelude.{◌≡◌, List, ◌++◌, ℕ}
use Rattle.std.proofs.Math.Path.{refl}
use Rattle.std.proofs.Math.Bool.{true, false}
use Rattle.std.proofs.Math.Option.{Option, none, some, get_or}
use Rattle.scan.specs.Word.{capitals}
use Rattle.tokens.specs.declared.Fault.{Fault}
use Rattle.statements.specs.rule.Words.{NAME, LABEL, SPREAD, VALUES, VARIABLE, END}
use Rattle.survey.specs.rule.Survey.{Figure, KeptText, Block, Content, single, multiple, quantity, character, logical, Variable}
use Rattle.survey.specs.rule.Survey as says
use Rattle.survey.specs.rule.Table.{lines_all}
use Rattle.reading.specs.rule.Result.{Result, Is, Not, bind}
use Rattle.reading.specs.rule.Least.{named}
use Rattle.reading.specs.rule.Token.{either}
use Rattle.reading.specs.rule.Statement.{statement, spread, position_charges, spread_charges}
use Rattle.reading.specs.rule.Statement as rule
use Rattle.reading.specs.rule.Variable.{ident_charges, Sort, Single, Multiple, Quantity, Character, Logical, room, variable_of, content}
use Rattle.reading.specs.rule.Variable as rules
use Rattle.grammar.specs.Token.{Here, Keyword, Notes, Statement, Phrase}
use Rattle.grammar.specs.Token as token
use Rattle.grammar.specs.Grammar.{Values, Spread, Position, Rest}
use Rattle.grammar.specs.Grammar as grammar
use Rattle.grammar.specs.Faults.{Clean, block_faults, content_faults, width_faults}
use Rattle.grammar.specs.Refusal.{Or, Never, Noted, noted, sound, SpreadRead, SpreadStops, ValuesRead}
use Rattle.grammar.specs.Refusal.{RestStops, RestRead, IdentRead, TypeRead, PositionRead, VariableStops, VariableRead}
use Rattle.grammar.specs.Refusal as refusal
use Rattle.grammar_laws.specs.Views.{View, reads, halts, then, word_at_lem, word_not, either_view, either_halted, then_halted}
use Rattle.grammar_laws.specs.Views.{judge}
use Rattle.grammar_laws.specs.Views.{judged_there, judged_halted, clean_both, clean_left, clean_right}
use Rattle.grammar_laws.specs.Places.{differ, other_word}
use Rattle.grammar_laws.specs.Tokens.{word_view, word_is, word_halted}
use Rattle.grammar_laws.specs.Notes.{note_capitals, notes_view, notes_is, notes_halted, notes_gap, notes_join, statement_view}
use Rattle.grammar_laws.specs.Notes.{statement_is}
use Rattle.grammar_laws.specs.Notes.{statement_halted, phrase_view, phrase_is, phrase_halted}
use Rattle.grammar_laws.specs.Statements.{position_view, position_is, position_halted, SizeRead, size_read, size_view, size_is}
use Rattle.grammar_laws.specs.Statements.{size_halted}
use Rattle.grammar_laws.specs.Statements.{PartsRead, parts, spread_view, spread_is, spread_halted, ident_view, ident_is, ident_halted}
use Rattle.grammar_laws.specs.Statements.{type_view, type_is, type_halted}
use Rattle.grammar_laws.specs.Values.{values_view, values_is, values_halted}

-- what is read, in another form
pub mapped : {A B : Type 0} {P : A → ℕ → Type 0} {S : Fault → Type 0} {Q : B → ℕ → Type 0} {r : Result A} (g : A → B) → View P S r
    → ((a : A) (m : ℕ) → P a m → Q (g a) m) → View Q S (bind r λ a m. Is (g a) m)
mapped g (reads {a = a} {m = m} p) q = reads (q a m p)
mapped g (halts z) q = halts z

pub map_halted : {A B : Type 0} {r : Result A} {f : Fault} (g : A → B) → r ≡ Not f → bind r (λ a m. Is (g a) m) ≡ Not f
map_halted g e = rw e

module _ (d : List ℕ) where
  -- ---- a statement behind notes may be read from before them, and from behind them
  pub statement_back : {w : List ℕ} {n k m : ℕ} → Notes d n k → Statement d w k m → Statement d w n m
  statement_back r (token.statement s h) = token.statement (notes_join d r s) h

  pub statement_fore : {w : List ℕ} {n k m : ℕ} → Notes d n k → Here d w k m → Statement d w k m
  statement_fore s h = token.statement (token.no_more (notes_gap d s)) h

  values_back : {n k m : ℕ} {b : Block} → Notes d n k → Values d k b m → Values d n b m
  values_back r (grammar.listed s l) = grammar.listed (statement_back r s) l
  values_back r (grammar.ranged s b w e) = grammar.ranged (statement_back r s) b w e
  values_back r (grammar.both s b w l) = grammar.both (statement_back r s) b w l

  data ValuesFore (n : ℕ) (b : Block) (m : ℕ) : Type 0 where
    values_fore : {k j : ℕ} → Notes d n k → Here d VALUES k j → Values d k b m → ValuesFore n b m

  values_first : {n m : ℕ} {b : Block} → Values d n b m → ValuesFore n b m
  values_first (grammar.listed (token.statement s h) l) = values_fore s h (grammar.listed (statement_fore s h) l)
  values_first (grammar.ranged (token.statement s h) b w e) = values_fore s h (grammar.ranged (statement_fore s h) b w e)
  values_first (grammar.both (token.statement s h) b w l) = values_fore s h (grammar.both (statement_fore s h) b w l)

  -- ---- by type
  module _ (p : rule.Position) (before : ℕ) where
    spread_or : (n : ℕ) → View (SpreadRead d (room p) n) (Or d SPREAD n (SpreadStops d (room p)) Never)
        (either d SPREAD (λ n. bind (spread d (room p) n) λ s m. Is (some s) m) (λ m. Is none m) n)
    unfolding capitals
    spread_or n =
        either_view d {w = SPREAD} refl n _ (λ m. Is none m) (λ m h. mapped some (spread_view d (room p) m) (λ s k x. on h x)) (λ o. reads
        (refusal.undivided o)) where
          on : {m k : ℕ} {s : says.Spread} → Here d SPREAD n m → PartsRead d (room p) m s k → SpreadRead d (room p) n (some s) k
          on h (parts y o c) = refusal.SpreadRead.given h y o c

    divided : {n k j m : ℕ} {o : Option says.Spread} {b : Block} → Noted d n k → SpreadRead d (room p) k o j
        → ValuesRead d false before j b m
        → RestRead d (room p) before Multiple n (multiple o b) m
    divided {b = b} (noted s z) (refusal.SpreadRead.given {x = x} {w = w} h y o c) (sound v e) =
        sound (grammar.Rest.multiple (grammar.spread (token.statement s h) y o) v)
        (clean_both (spread_charges (room p) x w) (block_faults false before b) c e)
    divided (noted s z) (refusal.undivided h) (sound v e) = sound (grammar.Rest.multiple grammar.undivided (values_back s v)) e

    pub rest_view : (t : Sort) (n : ℕ) → View (RestRead d (room p) before t n) (RestStops d (room p) before t n) (content d p before t n)
    unfolding named
    rest_view Single n = mapped single (values_view d false before n) (λ b m. on) where
      on : {b : Block} {m : ℕ} → ValuesRead d false before n b m → RestRead d (room p) before Single n (single b) m
      on (sound v c) = sound (grammar.Rest.single v) c
    rest_view Multiple n =
        then (notes_view d n) λ u k s.
        then (spread_or k) λ o j x.
        mapped (multiple o) (values_view d false before j) (λ b m v. divided s x v)
    rest_view Quantity n = mapped quantity (values_view d true before n) (λ b m. on) where
      on : {b : Block} {m : ℕ} → ValuesRead d true before n b m → RestRead d (room p) before Quantity n (quantity b) m
      on (sound v c) = sound (grammar.Rest.quantity v) c
    rest_view Character n = mapped character (size_view d n) (λ x m. on) where
      on : {x : Figure} {m : ℕ} → SizeRead d n x m → RestRead d (room p) before Character n (character x) m
      on (size_read s y c) = sound (grammar.Rest.character s y) c
    rest_view Logical n = reads (sound grammar.Rest.logical refl)

    undivided_is : {n m : ℕ} {b : Block} → ValuesFore n b m → Clean (block_faults false before b)
        → content d p before Multiple n ≡ Is (multiple none b) m
    unfolding capitals differ
    undivided_is (values_fore s h v) c =
        rw (
          notes_is d (noted s (other_word d {w = VALUES} refl note_capitals refl h)),
          word_not d {w = SPREAD} refl (other_word d {w = VALUES} refl refl refl h),
          values_is d false before (sound v c),
        )

    pub rest_is : (t : Sort) {n m : ℕ} {c : Content} → RestRead d (room p) before t n c m → content d p before t n ≡ Is c m
    unfolding capitals differ
    rest_is Single (sound (grammar.Rest.single v) c) = rw (values_is d false before (sound v c))
    rest_is Multiple (sound (grammar.Rest.multiple {b = b} (grammar.spread {x = x} {w = w} (token.statement s h) y o) v) c) =
        let l = spread_charges (room p) x w in
        let k = block_faults false before b in
        rw (
          notes_is d (noted s (other_word d {w = SPREAD} refl note_capitals refl h)),
          word_at_lem d {w = SPREAD} refl h,
          spread_is d (room p) (parts y o (clean_left l k c)),
          values_is d false before (sound v (clean_right l k c)),
        )
    rest_is Multiple (sound (grammar.Rest.multiple grammar.undivided v) c) = undivided_is (values_first v) c
    rest_is Quantity (sound (grammar.Rest.quantity v) c) = rw (values_is d true before (sound v c))
    rest_is Character (sound (grammar.Rest.character s y) c) = rw (size_is d (size_read s y c))
    rest_is Logical (sound grammar.Rest.logical c) = refl

    spread_read_is : (n : ℕ) {o : Option says.Spread} {m : ℕ} → SpreadRead d (room p) n o m
        → either d SPREAD (λ n. bind (spread d (room p) n) λ s m. Is (some s) m) (λ m. Is none m) n ≡ Is o m
    unfolding capitals
    spread_read_is n (refusal.SpreadRead.given h y o c) = rw (word_at_lem d {w = SPREAD} refl h, spread_is d (room p) (parts y o c))
    spread_read_is n (refusal.undivided o) = rw (word_not d {w = SPREAD} refl o)

    spread_halts : (n : ℕ) {f : Fault} → Or d SPREAD n (SpreadStops d (room p)) Never f
        → either d SPREAD (λ n. bind (spread d (room p) n) λ s m. Is (some s) m) (λ m. Is none m) n ≡ Not f
    unfolding capitals
    spread_halts n = either_halted d {w = SPREAD} refl n _ (λ m. Is none m) (λ m f z. rw (spread_halted d (room p) m z)) (λ f z. absurd z)

    pub rest_halted : (t : Sort) (n : ℕ) {f : Fault} → RestStops d (room p) before t n f → content d p before t n ≡ Not f
    rest_halted Single n z = rw (values_halted d false before n z)
    rest_halted Multiple n z =
        then_halted _ _ (λ f. notes_halted d n) (λ u m. notes_is d) (λ u k f.
        then_halted _ _ (λ f. spread_halts k) (λ o m. spread_read_is k) λ o j f z.
        map_halted (multiple o) (values_halted d false before j z)) z
    rest_halted Quantity n z = rw (values_halted d true before n z)
    rest_halted Character n z = rw (size_halted d n z)
    rest_halted Logical n z = absurd z

  -- ---- a variable, behind earlier ones
  module _ (earlier : List Variable) where
    abbrev before : ℕ
    before = lines_all earlier

    variable_of_lem : {n b c e g h i j m : ℕ} {x : Figure} {name label : KeptText} {t : Sort} {p : rule.Position} {r : Content}
        → IdentRead d earlier n x b → Phrase d NAME b name c → Phrase d LABEL c label e → TypeRead d e t g → PositionRead d g p h
        → RestRead d (room p) before t h r i → Statement d END i j → Keyword d VARIABLE j m
        → Clean (width_faults (variable_of x name label p r))
        → VariableRead d earlier n (variable_of x name label p r) m
    variable_of_lem {x = x} {name = name} {label = label} {p = p} {r = r} (refusal.ident s y c) na la (refusal.type ty w) (sound po c₂)
        (sound
        re c₃) e k c₄ =
        let v = variable_of x name label p r in
        sound (grammar.variable s y na la ty w po re (token.end e k))
        (clean_both (ident_charges earlier x) _ c (clean_both (position_charges p.start (get_or p.finish p.start)) _ c₂
        (clean_both (content_faults (room p) before r) (width_faults v) c₃ c₄)))

    pub variable_view : (n : ℕ) → View (VariableRead d earlier n) (VariableStops d earlier n) (rules.variable d earlier n)
    unfolding rules.variable capitals
    variable_view n =
        then (ident_view d earlier n) λ x b a₁.
        then (phrase_view d {w = NAME} refl b) λ name c a₂.
        then (phrase_view d {w = LABEL} refl c) λ label e a₃.
        then (type_view d e) λ t g a₄.
        then (position_view d g) λ p h a₅.
        then (rest_view p before t h) λ r i a₆.
        then (statement_view d {w = END} refl i) λ u j a₇.
        then (word_view d {w = VARIABLE} refl j) λ u m a₈.
        judge (width_faults (variable_of x name label p r)) (variable_of x name label p r) m
        (λ k. variable_of_lem a₁ a₂ a₃ a₄ a₅ a₆ a₇ a₈ k)

    pub variable_is : {n m : ℕ} {v : Variable} → VariableRead d earlier n v m → rules.variable d earlier n ≡ Is v m
    unfolding rules.variable capitals differ
    variable_is {m = m} {v = v} (sound (grammar.variable {x = x} {s = a} {t = t} {o = b} {r = r} s y na la ty w po re (token.end e k)) c) =
        let p : rule.Position = record { start = a; finish = b } in
        let l₁ = ident_charges earlier x in
        let l₂ = position_charges a (get_or b a) in
        let l₃ = content_faults (room p) before r in
        let l₄ = width_faults v in
        let c₂ = clean_right l₁ (l₂ ++ (l₃ ++ l₄)) c in
        let c₃ = clean_right l₂ (l₃ ++ l₄) c₂ in
        let q : PositionRead d _ p _ = sound po (clean_left l₂ (l₃ ++ l₄) c₂) in
        rw (
          ident_is d earlier (refusal.ident s y (clean_left l₁ (l₂ ++ (l₃ ++ l₄)) c)),
          phrase_is d {w = NAME} refl refl na,
          phrase_is d {w = LABEL} refl refl la,
          type_is d t (refusal.type ty w),
          position_is d q,
          rest_is p before t (sound re (clean_left l₃ l₄ c₃)),
          statement_is d {w = END} refl refl e,
          word_is d {w = VARIABLE} refl k,
        )
        (judged_there l₄ v m (clean_right l₃ l₄ c₃))

    pub variable_halted : (n : ℕ) {f : Fault} → VariableStops d earlier n f → rules.variable d earlier n ≡ Not f
    unfolding rules.variable capitals differ
    variable_halted n =
        then_halted _ _ (λ f. ident_halted d earlier n) (λ x m. ident_is d earlier) λ x b f.
        then_halted _ _ (λ f. phrase_halted d {w = NAME} refl refl b) (λ t m. phrase_is d {w = NAME} refl refl) λ name c f.
        then_halted _ _ (λ f. phrase_halted d {w = LABEL} refl refl c) (λ t m. phrase_is d {w = LABEL} refl refl) λ label e f.
        then_halted _ _ (λ f. type_halted d e) (λ t m. type_is d t) λ t g f.
        then_halted _ _ (λ f. position_halted d g) (λ p m. position_is d) λ p h f.
        then_halted _ _ (λ f. rest_halted p before t h) (λ r m. rest_is p before t) λ r i f.
        then_halted _ _ (λ f. statement_halted d {w = END} refl i) (λ u m. statement_is d refl refl) λ u j f.
        then_halted _ _ (λ f. word_halted d {w = VARIABLE} refl j) (λ u m. word_is d {w = VARIABLE} refl) λ u m f.
        judged_halted (width_faults (variable_of x name label p r)) (variable_of x name label p r) m
