-- POSITION, SPREAD and SIZE: what the code's books judge in an order of their own is the least of the paper's charges.
use Rattle.std.specs.Prelude.{◌≡◌, Bool, true, false, cond, not, List, [], ◌∷◌, Ok, Err}
use Rattle.std.proofs.Math.Path.{refl}
use Rattle.std.proofs.Common.{◌∙◌, ap, arith, le-leb}
use Rattle.std.proofs.Math.Option.{Option, none, some, get_or}
use Prim.Native.Nat.{ℕ, ◌≤◌, ◌<◌, ◌%◌, ◌/◌}
use Rattle.std.proofs.Math.Dec.{eqb}
use Rattle.scan.specs.Number.{capped}
use Rattle.tokens.specs.declared.Fault.{Fault}
use Rattle.tokens.specs.declared.Figures.{Figures}
use Rattle.tokens.specs.rule.Gap.{fault, OrFault}
use Rattle.tokens.specs.Gap.{gap_on}
use Rattle.tokens.specs.Token.{choice_of, number_on, number_here, past_number}
use Rattle.statements.specs.rule.Words.{POSITION, TO, OF, SIZE}
use Rattle.statements.specs.Position.{below_of, judge_position, both_of, position_rest, position_on}
use Rattle.statements.specs.Spread.{judge_of, judge_even, fields_of, even_of, rest, spread_rest}
use Rattle.statements.specs.Size.{judge_size, size_on}
use Rattle.survey.specs.rule.Survey.{Figure, Spread}
use Rattle.reading.specs.rule.Result.{Result, Is, Not, bind}
use Rattle.reading.specs.rule.Least.{judged, goes_before}
use Rattle.reading.specs.rule.Token.{number, optional}
use Rattle.reading.specs.rule.Statement.{position_charges, spread_charges, size_charges, Position, statement, position, spread, size}
use Rattle.bridge.specs.Lowest.{chain, rising, chain_least}
use Rattle.bridge.specs.Facts.{capped_limit, capped_zero, capped_mod, gap_ahead, word_ahead, Known, Told, told, untold, number_told}
use Rattle.bridge.specs.Facts.{choose_on}
use Rattle.bridge.specs.Tokens.{to_reading, to_number, number_on_lem}
use Rattle.bridge.specs.Notes.{statement_on_lem}
use Rattle.statements.specs.declared.Position as books
use Rattle.statements.specs.declared.Subfields.{Subfields}

abbrev pub figures : Figure → ℕ → Figures
figures x n = record { size = capped x.value; count = x.digits; place = x.place; next = n }

abbrev pub to_stated : Result Position → OrFault books.Position
to_stated (Is p n) = Ok (record {
  start = capped p.start.value;
  finish = capped (get_or p.finish p.start).value;
  place = p.start.place;
  next = n;
})
to_stated (Not f) = Err f

-- for a position of `room` bytes
abbrev pub even_or : ℕ → ℕ → Option Figure → ℕ
even_or room n none = room / n
even_or room n (some w) = capped w.value

abbrev pub to_spreading : ℕ → Result Spread → OrFault Subfields
to_spreading room (Is s n) = Ok
    (record { count = capped s.count.value; width = even_or room (capped s.count.value) s.width; next = n })
to_spreading room (Not f) = Err f

swap : {A : Type 0} (q : Bool) (x y : A) → cond q x y ≡ cond (not q) y x
swap true x y = refl
swap false x y = refl

module _ (d : List ℕ) where
  -- ---- POSITION
  abbrev placed : Figure → Option Figure → Position
  placed a b = record { start = a; finish = b }

  position_least : {i j : ℕ} (x : Figure) (b : Option Figure) {m e : ℕ} (n : ℕ) → Known d i x m → Known d j (get_or b x) e
      → x.place ≤ (get_or b x).place
      → judge_position (below_of d (figures (get_or b x) e) (figures x m)) (figures x m) (figures (get_or b x) e) n
      ≡ to_stated (judged (position_charges x (get_or b x)) (placed x b) n)
  unfolding judge_position chain position_charges rising goes_before
  position_least x b {m} {e} n k l h =
      let y = get_or b x in
      let p : judge_position (below_of d (figures y e) (figures x m)) (figures x m) (figures y e) n
      ≡ chain Err (to_stated (Is (placed x b) n)) (position_charges x y) =
      rw (capped_zero x.value, capped_limit 16384 x.value (omega arith), capped_limit 16384 y.value (omega arith))
      (rw (k.says, l.says)) in
      p ∙ chain_least to_stated (placed x b) n (position_charges x y) (rw (le-leb x.place y.place h))

  position_at : (k : ℕ) (r : Result Figure) → Told d k r
      → position_rest d (to_number r) (gap_on d (past_number (to_number r))) (choice_of d (gap_on d (past_number (to_number r))) TO)
      ≡ to_stated (bind r λ a n. bind (optional d TO (number d) n) λ b. judged (position_charges a (get_or b a)) (placed a b))
  unfolding both_of past_number gap_on choice_of
  position_at k (Is x m) (told i) =
      choose_on d m TO (λ j. bind (number d j) λ a n. Is (some a) n) (λ n. Is none n) (position_rest d (to_number (Is x m))) to_stated judge
      (λ f. refl)
      (λ g j e w. rw (number_on_lem d (Is j j))
      (finish (number d j) (number_told d j) (omega (arith, i.ends, gap_ahead d e, word_ahead d 84 (79 ∷ []) w))))
      (λ g e. position_least x none g i i (omega arith))
    where
      judge : Option Figure → ℕ → Result Position
      judge b = judged (position_charges x (get_or b x)) (placed x b)

      finish : {j : ℕ} (r : Result Figure) → Told d j r → x.place ≤ j
          → both_of d (to_number (Is x m)) (to_number r) (past_number (to_number r)) ≡ to_stated (bind (bind r λ a n. Is (some a) n) judge)
      finish (Is y e) (told l) h = position_least x (some y) e i l (omega (arith, l.starts))
      finish (Not f) untold h = refl
  position_at k (Not f) untold = refl

  position_refused : (f : Fault) → position_on d (Err f) ≡ Err f
  unfolding position_on both_of past_number number_on number_here gap_on choice_of
  position_refused f = rw (statement_on_lem d {A = ℕ} (Not f) POSITION)

  pub position_on_lem : {A : Type 0} (r : Result A) → position_on d (to_reading r) ≡ to_stated (bind r λ a. position d)
  unfolding position_on position
  position_on_lem (Is a n) = rw (statement_on_lem d (Is a n) POSITION) (by (statement d POSITION n)) where
    by : (s : Result Unit) → position_rest d (number_on d (to_reading s)) (gap_on d (past_number (number_on d (to_reading s))))
        (choice_of d (gap_on d (past_number (number_on d (to_reading s)))) TO)
        ≡ to_stated (bind s λ a n. bind (number d n) λ a n. bind (optional d TO (number d) n) λ b. judged
        (position_charges a (get_or b a)) (placed a b))
    by (Is a k) = rw (number_on_lem d (Is a k)) (position_at k (number d k) (number_told d k))
    by (Not f) = rw (number_on_lem d {A = ℕ} (Not f)) (position_at 0 (Not f) untold)
  position_on_lem (Not f) = position_refused f

  -- ---- SPREAD n [OF w], for a position of `room` bytes
  abbrev parts : Figure → Option Figure → Spread
  parts n w = record { count = n; width = w }

  module _ (room : ℕ) (small : room < 1000000000000000) where
    even_least : (x : Figure) (m n : ℕ)
        → judge_even (figures x m) room n ≡ to_spreading room (judged (spread_charges room x none) (parts x none) n)
    unfolding judge_even chain spread_charges rising goes_before
    even_least x m n =
        let v = x.value in
        let good = to_spreading room (Is (parts x none) n) in
        let k : judge_even (figures x m) room n ≡ chain Err good (spread_charges room x none) =
        rw (capped_zero v) (rw (ap (λ y. eqb y 0) (capped_mod room v small))
        (rw (swap (eqb (room % v) 0) good (Err (fault 7 x.place))))) in
        k ∙ chain_least (to_spreading room) (parts x none) n (spread_charges room x none) (rw (le-leb x.place x.place (omega arith)))

    of_least : (x w : Figure) (m n : ℕ) → x.place ≤ w.place
        → judge_of (figures x m) (figures w n) n ≡ to_spreading room (judged (spread_charges room x (some w)) (parts x (some w)) n)
    unfolding judge_of chain spread_charges rising goes_before
    of_least x w m n h =
        let k : judge_of (figures x m) (figures w n) n
        ≡ chain Err (to_spreading room (Is (parts x (some w)) n)) (spread_charges room x (some w)) =
        rw (capped_zero x.value, capped_zero w.value) in
        k ∙ chain_least (to_spreading room) (parts x (some w)) n (spread_charges room x (some w)) (rw (le-leb x.place w.place h))

    spread_at : (k : ℕ) (r : Result Figure) → Told d k r
        → rest d (to_number r) room (gap_on d (past_number (to_number r))) (choice_of d (gap_on d (past_number (to_number r))) OF)
        ≡ to_spreading room (bind r λ a n. bind (optional d OF (number d) n) λ b. judged (spread_charges room a b) (parts a b))
    unfolding fields_of even_of past_number gap_on choice_of
    spread_at k (Is x m) (told i) =
        choose_on d m OF (λ j. bind (number d j) λ a n. Is (some a) n) (λ n. Is none n) (rest d (to_number (Is x m)) room)
        (to_spreading room) judge
        (λ f. refl)
        (λ g j e w. rw (number_on_lem d (Is j j))
        (finish (number d j) (number_told d j) (omega (arith, i.ends, gap_ahead d e, word_ahead d 79 (70 ∷ []) w))))
        (λ g e. even_least x m g)
      where
        judge : Option Figure → ℕ → Result Spread
        judge b = judged (spread_charges room x b) (parts x b)

        finish : {j : ℕ} (r : Result Figure) → Told d j r → x.place ≤ j
            → fields_of (to_number (Is x m)) (to_number r) ≡ to_spreading room (bind (bind r λ a n. Is (some a) n) judge)
        finish (Is y e) (told l) h = of_least x y m e (omega (arith, l.starts))
        finish (Not f) untold h = refl
    spread_at k (Not f) untold = refl

    pub spread_on : (n : ℕ) → spread_rest d (Ok n) room ≡ to_spreading room (spread d room n)
    unfolding spread_rest spread
    spread_on n = rw (number_on_lem d (Is n n)) (spread_at n (number d n) (number_told d n))

  -- ---- SIZE
  size_least : (r : Result Figure) → judge_size (to_number r) ≡ to_number (bind r λ n. judged (size_charges n) n)
  unfolding judge_size chain size_charges rising goes_before
  size_least (Is x m) =
      let k : judge_size (to_number (Is x m)) ≡ chain Err (to_number (Is x m)) (size_charges x) =
      rw (capped_zero x.value, capped_limit 4096 x.value (omega arith)) in
      k ∙ chain_least to_number x m (size_charges x) refl
  size_least (Not f) = refl

  pub size_on_lem : {A : Type 0} (r : Result A) → size_on d (to_reading r) ≡ to_number (bind r λ a. size d)
  unfolding size_on size
  size_on_lem (Is a n) = rw (statement_on_lem d (Is a n) SIZE) (by (statement d SIZE n)) where
    by : (s : Result Unit) → judge_size (number_on d (to_reading s))
        ≡ to_number (bind s λ a n. bind (number d n) λ n. judged (size_charges n) n)
    by (Is a k) = rw (number_on_lem d (Is a k)) (size_least (number d k))
    by (Not f) = rw (number_on_lem d {A = ℕ} (Not f)) (size_least (Not f))
  size_on_lem (Not f) = rw (statement_on_lem d {A = ℕ} (Not f) SIZE) (rw (number_on_lem d {A = ℕ} (Not f)) (size_least (Not f)))
