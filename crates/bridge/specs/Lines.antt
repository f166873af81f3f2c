-- The lines of a block, one by one: read, judged by the least charge, and what follows; the turns of both are enough.
use Rattle.std.specs.Prelude.{◌≡◌, Bool, cond, not, Ok, Err}
use Rattle.std.proofs.Math.Path.{refl, sym}
use Rattle.std.proofs.Common.{◌∙◌, arith, length-append}
use Rattle.std.proofs.Math.Bool.{true, false}
use mathlib.Core.List.{List, [], ◌∷◌, ◌++◌}
use Prim.Native.Nat.{ℕ, zero, suc, ◌+◌, ◌-◌, ◌<◌}
use Rattle.std.proofs.Math.Dec.{leb}
use Rattle.std.proofs.Math.ListN.{length}
use borrow.Author.Tests.{le-leb, leb-false}
use Rattle.cells.specs.rule.Cell.{eq_z}
use Rattle.scan.specs.Order.{value_of}
use Rattle.scan.specs.rule.Loop.{Next, Again, Done, on_next, loop_of}
use Rattle.scan.specs.rule.Word.{word_at}
use Rattle.scan.specs.declared.Word.{Word}
use Rattle.scan.specs.declared.Word.TheVariants as spelled
use Rattle.tokens.specs.declared.Fault.{Fault}
use Rattle.tokens.specs.declared.Value.{Value}
use Rattle.tokens.specs.rule.Gap.{fault, OrFault}
use Rattle.tokens.specs.Gap.{gap_on}
use Rattle.tokens.specs.Token.{of_choice, choice_of, value_here, past_value, string_on, past_string}
use Rattle.statements.specs.rule.Words.{SPECIAL, END, VALUES}
use Rattle.values.specs.declared.Block as books
use Rattle.values.specs.declared.Said.{Said}
use Rattle.values.specs.Line.{Given, state_of, said_of, special_or, line_rest, grown_by, end_of, end_or, more_of, after, judged_step}
use Rattle.values.specs.Line as given
use Rattle.values.specs.Order.{paper_line, paper_read, paper_step}
use Rattle.survey.specs.rule.Survey.{Amount, KeptText, Line, Block}
use Rattle.survey.specs.rule.Width.{some_of, amounts, scaled}
use Rattle.reading.specs.rule.Result.{Result, Is, Not, Reader, bind, repeat}
use Rattle.reading.specs.rule.Result as reading
use Rattle.reading.specs.rule.Least.{goes_before, judged}
use Rattle.reading.specs.rule.Token.{on_word, either, word, whether, amount, string}
use Rattle.reading.specs.rule.Statement.{notes}
use Rattle.reading.specs.rule.Values.{form_is, large, unlike_amounts, line_charges, Listing, listing, with_line, end_values, line, listed}
use Rattle.bridge.specs.Lowest.{chain, rising, chain_least}
use Rattle.bridge.specs.Facts.{choose}
use Rattle.bridge.specs.Tokens.{to_reading, to_phrase, word_on_lem, string_on_lem}
use Rattle.bridge.specs.Notes.{notes_on_lem}
use Rattle.bridge.specs.Amounts.{written, Valued, valued, unvalued, value_on_lem}
use Rattle.bridge.specs.Blocks.{form_same, large_same, true_same, small, said_as, line_of, same, SameLines, lines_more}
use Rattle.bridge.specs.Blocks.{lines_count}
use Rattle.bridge.specs.Blocks.{repeated, Kept, kept_more}

pub bind_bind : {A B C : Type 0} (r : Result A) (f : A → Reader B) (k : B → Reader C) → bind (bind r f) k ≡ bind r (λ a n. bind (f a n) k)
bind_bind (Is a n) f k = refl
bind_bind (Not g) f k = refl

-- ---- what VALUES give
pub data SameGiven (d : List ℕ) : Given → Result Block → Type 0 where
  gives : {b : books.Block} {l : List Said} {c : Block} {n : ℕ} → Kept b c → SameLines d l c.lines
      → SameGiven d (given.Is b l n) (Is c n)
  refuses : {f : Fault} → SameGiven d (given.Not f) (Not f)

module _ (d : List ℕ) (quantity : Bool) (first : ℕ) where
  -- where both stand before a line: its value was read, up to m in the books, and the rest of the line is read from p on
  pub record Standing (a : Amount) (x y m p : ℕ) (b : books.Block) (l : List Said) (c : Block) : Type 0 where
    pub says : value_of d x y ≡ a.size
    pub from : string d p ≡ string d m
    pub kept : Kept b c
    pub lines : SameLines d l c.lines

  -- one line behind k others
  pub data Step (k : ℕ) : Next given.Listing Given → Result (Next Listing Block) → Type 0 where
    on : {a : Amount} {x y m p : ℕ} {b : books.Block} {l : List Said} {c : Block} → Standing a x y m p b l c → k + 1 ≡ length l
        → first + k < 4096
        → Step k (Again (state_of (Ok (written a x y m)) b l)) (Is (Again (listing c a)) p)
    over : {g : Given} {c : Block} {n : ℕ} → SameGiven d g (Is c n) → Step k (Done g) (Is (Done c) n)
    stuck : {b : books.Block} {l : List Said} {f : Fault} → k + 1 ≡ length l → first + k < 4096
        → Step k (Again (state_of (Err f) b l)) (Not f)
    halt : {f : Fault} → Step k (Done (given.Not f)) (Not f)

  pub value_refused : (f : Fault) → value_here d (Err f) ≡ Err f
  unfolding value_here
  value_refused f = refl

  -- ---- what follows a line
  module _ (b : books.Block) (l : List Said) (c : Block) (kept : Kept b c) (lines : SameLines d l c.lines) (k : ℕ)
      (count : k + 1 ≡ length l) (few : first + k < 4096) where
    abbrev closing : Reader (Next Listing Block)
    closing e = bind (end_values d c e) λ b n. Is (Done b) n

    abbrev another : Reader (Next Listing Block)
    another i = bind (amount d i) λ a n. Is (Again (listing c a)) n

    value_next : (i : ℕ) {va : OrFault Value} {ra : Result Amount} → Valued d i va ra
        → Step k (Again (state_of va b l)) (bind ra λ a n. Is (Again (listing c a)) n)
    value_next i (valued {a = a} {x = x} {y = y} {m = m} e s t) =
        let h : Standing a x y m m b l c = record { says = e; from = refl; kept = kept; lines = lines } in on h count few
    value_next i unvalued = stuck count few

    end_next : (e : ℕ) (r : Result Unit) → Step k (after l (end_of b (to_reading r))) (bind (bind r λ a n. Is c n) λ b n. Is (Done b) n)
    unfolding end_of
    end_next e (Is a n) = over (gives kept lines)
    end_next e (Not f) = halt

    follows : (n : ℕ) → Step k (after l (more_of d b n)) (bind (notes d n) λ a. either d END closing another)
    unfolding more_of choice_of
    follows n = rw (notes_on_lem d (Is n n)) (by (notes d n)) where
      at : (i : ℕ) (w : Word) → Step k (after l (end_or d b (Ok i) (of_choice w))) (on_word closing another i w)
      at i (spelled.Matched e) = rw (word_on_lem d (Is e e) VALUES) (end_next e (word d VALUES e))
      at i spelled.Not = value_next i (value_on_lem d i)

      by : (r : Result Unit) → Step k (after l (end_or d b (to_reading r) (choice_of d (to_reading r) END)))
          (bind r λ a. either d END closing another)
      by (Is a i) = at i (word_at d i END)
      by (Not f) = rw (value_refused f) (stuck count few)

  -- ---- a line, judged
  module _ {a : Amount} {x y m p : ℕ} {b : books.Block} {l : List Said} {c : Block} (h : Standing a x y m p b l c) where
    abbrev v : Value
    v = written a x y m

    abbrev S : given.Listing
    S = state_of (Ok v) b l

    abbrev then : Line → Reader (Next Listing Block)
    then z n =
        bind (notes d n) λ a. either d END (λ e. bind (end_values d (with_line c z) e) λ b n. Is (Done b) n)
        (λ i. bind (amount d i) λ a n. Is (Again (listing (with_line c z) a)) n)

    charges_rise : rising (line_charges quantity first c a) ≡ true
    unfolding rising line_charges goes_before
    charges_rise = rw (le-leb a.place a.place (omega arith))

    line_judged : (t : KeptText) (i : ℕ) (s : Bool) (n : ℕ)
        → Step (length l) (judged_step d S (said_as a x y m t i s n) (paper_line d l first quantity b v))
        (bind (judged (line_charges quantity first c a) (line_of a t s) n) then)
    unfolding paper_line chain line_charges
    line_judged t i s n =
        rw (← chain_least (λ r. r) (line_of a t s) n (line_charges quantity first c a) charges_rise)
        (rw (
          form_same d quantity a x y m,
          large_same d quantity a x y m,
          true_same d a x y m h.says,
          h.kept.unlike_some a,
          repeated h.lines (scaled a),
          lines_count h.lines,
        )
        (by (form_is quantity a) (some_of (unlike_amounts a) (amounts c)) (some_of (λ z. eq_z (scaled z.value) (scaled a)) c.lines)
        (large quantity a) (leb 4096 (first + length c.lines)) refl refl refl refl refl))
      where
        by : (q u r g e : Bool) → form_is quantity a ≡ q → some_of (unlike_amounts a) (amounts c) ≡ u
            → some_of (λ z. eq_z (scaled z.value) (scaled a)) c.lines ≡ r → large quantity a ≡ g
            → leb 4096 (first + length c.lines) ≡ e
            → Step (length c.lines) (judged_step d S (said_as a x y m t i s n)
            (cond q (cond u (Err (fault 6 a.place))
            (cond r (Err (fault 6 a.place))
            (cond g (Err (fault 8 a.place)) (cond e (Err (fault 8 a.place)) (Ok (scaled a))))))
            (Err (fault 6 a.place))))
            (bind (cond (not q) (Not (fault 6 a.place))
            (cond u (Not (fault 6 a.place))
            (cond r (Not (fault 6 a.place))
            (cond g (Not (fault 8 a.place)) (cond e (Not (fault 8 a.place)) (Is (line_of a t s) n)))))) then)
        by true false false false false i1 i2 i3 i4 i5 =
            let few = leb-false 4096 (first + length c.lines) i5 in
            let count : length c.lines + 1 ≡ length (l ++ said_as a x y m t i s n ∷ []) =
            sym (length-append l (said_as a x y m t i s n ∷ []) ∙ rw (lines_count h.lines)) in
            follows (grown_by b v) (l ++ said_as a x y m t i s n ∷ []) (with_line c (line_of a t s)) (kept_more a t s x y m h.kept i2)
            (lines_more h.lines (same h.says (small quantity a i4))) (length c.lines) count few n
        by true false false false true i1 i2 i3 i4 i5 = halt
        by true false false true e i1 i2 i3 i4 i5 = halt
        by true false true g e i1 i2 i3 i4 i5 = halt
        by true true r g e i1 i2 i3 i4 i5 = halt
        by false u r g e i1 i2 i3 i4 i5 = halt

    pub line_step_lem : Step (length l) (paper_step d quantity first S) (listed d quantity first (listing c a) p)
    unfolding paper_step line_rest past_value said_of listed line gap_on past_string choice_of
    line_step_lem = rw h.from (rw (string_on_lem d (Is m m)) (by (string d m))) where
      by : (r : Result KeptText)
          → Step (length l) (paper_read d quantity first S
          (special_or (Ok v) (to_phrase r) (gap_on d (past_string (to_phrase r)))
          (choice_of d (gap_on d (past_string (to_phrase r))) SPECIAL)))
          (bind (bind r λ t n. bind (whether d SPECIAL n) λ s. judged (line_charges quantity first c a) (line_of a t s)) then)
      by (Is t i) =
          rw (bind_bind (whether d SPECIAL i) (λ s. judged (line_charges quantity first c a) (line_of a t s)) then)
          (choose d (Step (length l)) i SPECIAL (λ j. Is true j) (λ j. Is false j)
          (λ g w. paper_read d quantity first S (special_or (Ok v) (to_phrase (Is t i)) g w))
          (λ s n. bind (judged (line_charges quantity first c a) (line_of a t s) n) then)
          (λ f e. halt) (λ k j e w. line_judged t i true j) (λ k e w. line_judged t i false k))
      by (Not f) = halt

  -- ---- all lines: as many turns as lines may still come are enough
  abbrev pub out : Given
  out = given.Not (fault 0 0)

  pub no_value : (f : ℕ) (e : Fault) (b : books.Block) (l : List Said) → 0 < f
      → loop_of (paper_step d quantity first) out f (state_of (Err e) b l) ≡ given.Not e
  unfolding loop_of paper_step line_rest past_value string_on gap_on past_string choice_of said_of
  no_value zero e b l h = absurd (omega arith)
  no_value (suc f) e b l h = refl

  pub lines_turns : (f g : ℕ) (a : Amount) (x y m p : ℕ) (b : books.Block) (l : List Said) (c : Block) → Standing a x y m p b l c
      → 4096 - (first + length l) < f → 4096 - (first + length l) < g
      → SameGiven d (loop_of (paper_step d quantity first) out f (state_of (Ok (written a x y m)) b l))
      (repeat g (listed d quantity first) (listing c a) p)
  unfolding loop_of repeat
  lines_turns zero g a x y m p b l c h i j = absurd (omega arith)
  lines_turns (suc f) zero a x y m p b l c h i j = absurd (omega arith)
  lines_turns (suc f) (suc g) a x y m p b l c h i j = by (line_step_lem h) (lines_turns f g) where
    by : {r : Next given.Listing Given} {q : Result (Next Listing Block)} → Step (length l) r q
        → ((a : Amount) (x y m p : ℕ) (b : books.Block) (l : List Said) (c : Block) → Standing a x y m p b l c
        → 4096 - (first + length l) < f → 4096 - (first + length l) < g
        → SameGiven d (loop_of (paper_step d quantity first) out f (state_of (Ok (written a x y m)) b l))
        (repeat g (listed d quantity first) (listing c a) p))
        → SameGiven d (on_next r (loop_of (paper_step d quantity first) out f)) (bind q (reading.turn (repeat g (listed d quantity first))))
    by (on {a = a} {x = x} {y = y} {m = m} {p = p} {b = b} {l = l} {c = c} s e k) ih = ih a x y m p b l c s (omega arith) (omega arith)
    by (over s) ih = s
    by (stuck {b = b} {l = l} {f = e} u k) ih = rw (no_value f e b l (omega arith)) refuses
    by halt ih = refuses
