-- What a block has said so far, in the code's books and as plain data: the books keep a few numbers of it and add each value to them.
use Rattle.std.specs.Prelude.{◌≡◌, Bool, true, false, cond, not, ◌&&◌, ◌||◌, List, [], ◌∷◌, ◌++◌, map, ℕ, zero, suc, eqb, ltb, ℤ, length}
use Rattle.std.proofs.Math.Path.{refl}
use Rattle.std.proofs.Common.{◌∙◌, sym, ap, append_assoc, arith, eqb-true, le-ltb, ltb-false}
use Rattle.std.proofs.lemmas.Bool.{not-false}
use Rattle.below.specs.rule.Below.{any_below}
use Rattle.below.specs.Below.{holds_not}
use Rattle.cells.specs.rule.Cell.{eq_z}
use Rattle.scan.specs.Number.{capped}
use Rattle.scan.specs.Order.{value_of}
use Rattle.tokens.specs.declared.Quoted.{Quoted}
use Rattle.values.specs.declared.Block as books
use Rattle.values.specs.declared.Said.{Said}
use Rattle.values.specs.Value.{form_of, large_of, true_of, scaled_of, points_of}
use Rattle.values.specs.Line as lines
use Rattle.values.specs.Order.{trues, true_at}
use Rattle.values.proofs.Facts.{or_none, or_neither}
use Rattle.survey.specs.rule.Survey.{Amount, KeptText, Line, Block}
use Rattle.survey.specs.rule.Width.{flag, some_of, each_of, range_ends, amounts, scaled, decimals_in, bare, point_in}
use Rattle.survey.specs.rule.Table.{ranged, from_of, to_of, line_cells, cells_of}
use Rattle.reading.specs.rule.Values.{form_is, large, unlike_amounts, with_line}
use Rattle.bridge.specs.Facts.{capped_limit}
use Rattle.bridge.specs.Amounts.{written}

-- ---- a value: its form and its size
pub form_same : (d : List ℕ) (quantity : Bool) (a : Amount) (x y m : ℕ) → form_of quantity (written a x y m) ≡ form_is quantity a
unfolding form_of form_is
form_same d quantity a x y m = rw (capped_limit 0 a.size (omega arith))

pub large_same : (d : List ℕ) (quantity : Bool) (a : Amount) (x y m : ℕ) → large_of quantity (written a x y m) ≡ large quantity a
unfolding large_of large
large_same d quantity a x y m = rw (capped_limit 999999999999999 a.size (omega arith), capped_limit 9999 a.size (omega arith))

pub true_same : (d : List ℕ) (a : Amount) (x y m : ℕ) → value_of d x y ≡ a.size → true_of d (written a x y m) ≡ scaled a
unfolding true_of
true_same d a x y m e = rw e

-- a value that is not too large is below the cap
pub small : (quantity : Bool) (a : Amount) → large quantity a ≡ false → capped a.size ≡ a.size
unfolding large
small true a e = let h = ltb-false 999999999999999 a.size (or_none (ltb 999999999999999 a.size) (ltb 9 a.decimals) e) in rw
    (le-ltb 1000000000000000 a.size (omega arith))
small false a e = let h = ltb-false 9999 a.size e in rw (le-ltb 1000000000000000 a.size (omega arith))

-- ---- lines
abbrev pub quoted_as : KeptText → ℕ → Quoted
quoted_as t n = record { place = t.place; length = t.length; next = n }

abbrev pub said_as : Amount → ℕ → ℕ → ℕ → KeptText → ℕ → Bool → ℕ → Said
said_as a x y m t k s n = record { value = written a x y m; text = quoted_as t k; special = flag s; next = n }

abbrev pub line_of : Amount → KeptText → Bool → Line
line_of a t s = record { value = a; text = t; special = s }

pub data Same (d : List ℕ) : Said → Line → Type 0 where
  same : {a : Amount} {t : KeptText} {s : Bool} {x y m k n : ℕ} → value_of d x y ≡ a.size → capped a.size ≡ a.size
      → Same d (said_as a x y m t k s n) (line_of a t s)

pub data SameLines (d : List ℕ) : List Said → List Line → Type 0 where
  nothing : SameLines d [] []
  more : {s : Said} {x : Line} {l : List Said} {m : List Line} → Same d s x → SameLines d l m → SameLines d (s ∷ l) (x ∷ m)

any_first : (n : ℕ) (f : ℕ → Bool) → any_below (suc n) f ≡ (f 0 || any_below n (λ i. f (suc i)))
unfolding any_below
any_first zero f = by (f 0) where
  by : (q : Bool) → q ≡ (q || false)
  by true = refl
  by false = refl
any_first (suc n) f = rw (any_first n f) (by (f 0)) where
  by : (q : Bool) → ((q || any_below n (λ i. f (suc i))) || f (suc n)) ≡ (q || (any_below n (λ i. f (suc i)) || f (suc n)))
  by true = refl
  by false = refl

module _ {d : List ℕ} where
  pub lines_more : {s : Said} {x : Line} {l : List Said} {m : List Line} → SameLines d l m → Same d s x
      → SameLines d (l ++ s ∷ []) (m ++ x ∷ [])
  lines_more nothing h = more h nothing
  lines_more (more g r) h = more g (lines_more r h)

  pub lines_count : {l : List Said} {m : List Line} → SameLines d l m → length l ≡ length m
  lines_count nothing = refl
  lines_count (more h r) = rw (lines_count r)

  pub lines_cells : {l : List Said} {m : List Line} → SameLines d l m → lines.cells_of l ≡ cells_of m
  unfolding lines.cells_of cells_of lines.line_cells line_cells scaled_of
  lines_cells nothing = refl
  lines_cells (more (same e c) r) = rw (c, lines_cells r)

  -- an earlier line says the number z
  repeats : {l : List Said} {m : List Line} → SameLines d l m → (z : ℤ)
      → any_below (length l) (λ i. eq_z (true_at d l i) z) ≡ some_of (λ x. eq_z (scaled x.value) z) m
  unfolding true_at trues some_of any_below
  repeats nothing z = refl
  repeats (more {l = l} (same {a = a} {t = t} {s = s} {x = x} {y = y} {m = m} {k = k} {n = n} e c) r) z =
      any_first (length l) (λ i. eq_z (true_at d (said_as a x y m t k s n ∷ l) i) z) ∙ rw (true_same d a x y m e) (rw (repeats r z))

  pub repeated : {l : List Said} {m : List Line} → SameLines d l m → (z : ℤ)
      → lines.repeated_in (true_at d l) (length l) z ≡ some_of (λ x. eq_z (scaled x.value) z) m
  unfolding lines.repeated_in
  repeated h z = repeats h z

-- ---- what the books keep of a block
pub record Kept (b : books.Block) (c : Block) : Type 0 where
  pub decimals : b.decimals ≡ decimals_in (amounts c)
  pub point : b.point ≡ point_in (amounts c)
  pub known : b.known ≡ some_of (λ (a : Amount). true) (amounts c)
  pub unlike_some : (a : Amount) → (b.known && not (eqb a.decimals b.decimals)) ≡ some_of (unlike_amounts a) (amounts c)
  pub ranged : flag b.ranged ≡ ranged c.range
  pub from : b.from ≡ from_of c.range
  pub to : b.to ≡ to_of c.range

some_more : {A : Type 0} (f : A → Bool) (l : List A) (a : A) → some_of f (l ++ a ∷ []) ≡ (some_of f l || f a)
unfolding some_of
some_more f [] a = by (f a) where
  by : (q : Bool) → (q || false) ≡ q
  by true = refl
  by false = refl
some_more f (x ∷ l) a = rw (some_more f l a) (by (f x)) where
  by : (q : Bool) → (q || (some_of f l || f a)) ≡ ((q || some_of f l) || f a)
  by true = refl
  by false = refl

each_more : {A : Type 0} (f : A → Bool) (l : List A) (a : A) → each_of f (l ++ a ∷ []) ≡ (each_of f l && f a)
unfolding each_of
each_more f [] a = by (f a) where
  by : (q : Bool) → (q && true) ≡ q
  by true = refl
  by false = refl
each_more f (x ∷ l) a = rw (each_more f l a) (by (f x)) where
  by : (q : Bool) → (q && (each_of f l && f a)) ≡ ((q && each_of f l) && f a)
  by true = refl
  by false = refl

-- ---- the point's code: a number more
abbrev pub own : Amount → ℕ
own a = cond a.point (cond (eqb a.whole 0) 2 1) 0

-- where each number is bare, some number has a point
each_some : (x : Amount) (l : List Amount) → each_of bare (x ∷ l) ≡ true → some_of (λ (a : Amount). a.point) (x ∷ l) ≡ true
unfolding each_of some_of
each_some x l = by x.point (eqb x.whole 0) where
  by : (p w : Bool) → ((p && w) && each_of bare l) ≡ true → (p || some_of (λ (a : Amount). a.point) l) ≡ true
  by true w e = refl
  by false w e = holds_not e refl

together : (s e p w : Bool) → (e ≡ true → s ≡ true)
    → ◌≡◌ {A = ℕ} (cond (s || p) (cond (e && (p && w)) 2 1) 0) (points_of (cond s (cond e 2 1) 0) (cond p (cond w 2 1) 0))
together true true true true h = refl
together true true true false h = refl
together true true false w h = refl
together true false true true h = refl
together true false true false h = refl
together true false false w h = refl
together false true p w h = holds_not (h refl) refl
together false false true true h = refl
together false false true false h = refl
together false false false w h = refl

point_more : (l : List Amount) (a : Amount)
    → point_in (l ++ a ∷ []) ≡ cond (some_of (λ (x : Amount). true) l) (points_of (point_in l) (own a)) (own a)
unfolding some_of each_of
point_more [] a = by a.point (eqb a.whole 0) where
  by : (p w : Bool) → ◌≡◌ {A = ℕ} (cond (p || false) (cond ((p && w) && true) 2 1) 0) (cond p (cond w 2 1) 0)
  by true true = refl
  by true false = refl
  by false w = refl
point_more (x ∷ l) a =
    ap (λ (s : Bool). cond s (cond (each_of bare (x ∷ l ++ a ∷ [])) 2 1) 0) (some_more (λ (a : Amount). a.point) (x ∷ l) a)
    ∙ ap (λ (e : Bool). cond (some_of (λ (a : Amount). a.point) (x ∷ l) || a.point) (cond e 2 1) 0) (each_more bare (x ∷ l) a)
    ∙ together (some_of (λ (a : Amount). a.point) (x ∷ l)) (each_of bare (x ∷ l)) a.point (eqb a.whole 0) (each_some x l)

alike : (a x : Amount) → unlike_amounts a x ≡ false → a.decimals ≡ x.decimals
alike a x e = eqb-true a.decimals x.decimals (not-false (eqb a.decimals x.decimals) e)

decimals_more : (l : List Amount) (a : Amount) → some_of (unlike_amounts a) l ≡ false → a.decimals ≡ decimals_in (l ++ a ∷ [])
unfolding some_of
decimals_more [] a e = refl
decimals_more (x ∷ l) a e = alike a x (or_none (unlike_amounts a x) (some_of (unlike_amounts a) l) e)

unlike_more : (l : List Amount) (a c : Amount) → some_of (unlike_amounts a) l ≡ false → unlike_amounts c a
    ≡ some_of (unlike_amounts c) (l ++ a ∷ [])
unfolding some_of
unlike_more [] a c e = by (unlike_amounts c a) where
  by : (q : Bool) → q ≡ (q || false)
  by true = refl
  by false = refl
unlike_more (x ∷ l) a c e =
    let h = alike a x (or_none (unlike_amounts a x) (some_of (unlike_amounts a) l) e) in
    rw (← unlike_more l a c (or_neither (unlike_amounts a x) (some_of (unlike_amounts a) l) e), h) (by (unlike_amounts c x))
  where
    by : (q : Bool) → q ≡ (q || q)
    by true = refl
    by false = refl

map_more : (l : List Line) (x : Line) → map (λ l. l.value) (l ++ x ∷ []) ≡ map (λ l. l.value) l ++ x.value ∷ []
map_more [] x = refl
map_more (y ∷ l) x = rw (map_more l x)

amounts_more : (c : Block) (x : Line) → amounts (with_line c x) ≡ amounts c ++ x.value ∷ []
unfolding amounts
amounts_more c x = rw (map_more c.lines x) (sym (append_assoc (range_ends c.range) (map (λ l. l.value) c.lines) (x.value ∷ [])))

pub kept_more : {b : books.Block} {c : Block} (a : Amount) (t : KeptText) (s : Bool) (x y m : ℕ) → Kept b c
    → some_of (unlike_amounts a) (amounts c) ≡ false
    → Kept (lines.grown_by b (written a x y m)) (with_line c (line_of a t s))
unfolding lines.grown_by
kept_more {b} {c} a t s x y m k e =
    let more = amounts_more c (line_of a t s) in
    record {
      decimals = decimals_more (amounts c) a e ∙ sym (ap decimals_in more);
      point = rw (k.known, k.point) (sym (point_more (amounts c) a) ∙ sym (ap point_in more));
      known =
          sym (ap (some_of (λ (z : Amount). true)) more ∙ some_more (λ (z : Amount). true) (amounts c) a
          ∙ by (some_of (λ (z : Amount). true) (amounts c)));
      unlike_some = λ z. unlike_more (amounts c) a z e ∙ sym (ap (some_of (unlike_amounts z)) more);
      ranged = k.ranged;
      from = k.from;
      to = k.to;
    }
  where
    by : (q : Bool) → (q || true) ≡ true
    by true = refl
    by false = refl
