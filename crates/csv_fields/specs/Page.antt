-- What follows from rule/Page.antt, and what the code keeps.
use Rattle.std.specs.Prelude.{◌≡◌, refl, Bool, true, false, cond, not, ◌||◌, ℕ, suc, ◌+◌, ◌-◌, ◌≤◌, ◌<◌, eqb, ltb, length, take, drop}
use Rattle.std.specs.Prelude.{get_or}
use Rattle.std.proofs.Common.{sym, ◌∙◌, length-drop, take-append-drop, drop-cons, drop-drop, take-suc, take-add}
use Rattle.std.proofs.Common.{get_or-drop}
use Rattle.std.proofs.Math.Path.{ap}
use mathlib.Core.List.{List, [], ◌∷◌, ◌++◌, append-nil, append_assoc}
use Rattle.std.proofs.Math.Numerals.{add-one}
use native.Mathlib.Omega.{arith}
use borrow.Author.Tests.{eq-eqb, ne_eqb, eqb-true, ltb-true, lt-ltb}
use Rattle.below.specs.Below.{holds_not, or_true}
use Rattle.commas.specs.rule.Csv.{is_special, holds_special, doubled_byte, doubled}
use Rattle.csv_fields.specs.declared.Cut.{Cut}
use Rattle.csv_fields.specs.declared.Cut.TheVariants.{Comma, Last, Torn}
use Rattle.csv_fields.specs.declared.Stop.{Stop}
use Rattle.csv_fields.specs.declared.Stop.TheVariants as stop
use Rattle.csv_fields.specs.rule.Page.{Page, torn, more, last, start, fresh, bare, ending, inside, closing}
use Rattle.csv_fields.specs.rule.Page.{skip, comma, wrong, page_step, with_byte, taken, page}

-- the bytes from one place to another
abbrev pub part : List ℕ → ℕ → ℕ → List ℕ
part d from to = take (to - from) (drop from d)

-- bytes in front of the first field
unfoldable pub with_bytes : List ℕ → Page → Page
with_bytes [] p = p
with_bytes (b ∷ s) p = with_byte b (with_bytes s p)

-- whether some byte is a quote
unfoldable pub has_quote : List ℕ → Bool
has_quote [] = false
has_quote (b ∷ s) = eqb b 34 || has_quote s

-- what is read where a field has ended
unfoldable pub stop_page : List ℕ → Page
stop_page [] = torn
stop_page (b ∷ s) = cond (eqb b 44) (more [] (page fresh s)) (cond (eqb b 13) (page ending s) torn)

-- bytes without one of the four, up to the end or to one that is
pub record BareTo (d : List ℕ) (from to : ℕ) : Type 0 where
  pub on : from ≤ to
  pub within : to ≤ length d
  pub reads : page bare (drop from d) ≡ with_bytes (part d from to) (page bare (drop to d))
  pub plain : holds_special (part d from to) ≡ false
  pub stops : to < length d → is_special (get_or d to 0) ≡ true

-- bytes without a quote, up to the end or to one
pub record QuoteTo (d : List ℕ) (from to : ℕ) : Type 0 where
  pub on : from ≤ to
  pub within : to ≤ length d
  pub reads : page inside (drop from d) ≡ with_bytes (part d from to) (page inside (drop to d))
  pub plain : has_quote (part d from to) ≡ false
  pub stops : to < length d → get_or d to 0 ≡ 34

-- what stops a field
abbrev pub StopsAs : List ℕ → ℕ → Stop → Type 0
StopsAs d i (stop.Comma n) = (stop_page (drop i d) ≡ more [] (page fresh (drop n d))) × (i < n) × (n ≤ length d)
StopsAs d i (stop.Last n) = (stop_page (drop i d) ≡ last [] (page start (drop n d))) × (i < n) × (n ≤ length d)
StopsAs d i stop.Torn = stop_page (drop i d) ≡ torn

-- A FIELD that stands in a text: its bytes, with every quote doubled, stand from one place to another; where it holds none, they are it
pub record Stands (d : List ℕ) (from to : ℕ) (bare' : Bool) (f : List ℕ) : Type 0 where
  pub on : from ≤ to
  pub within : to ≤ length d
  pub raw : part d from to ≡ doubled f
  pub plain : bare' ≡ not (has_quote f)

-- within quotes that opened before `from`, so much was read
pub record InsideTo (d : List ℕ) (from to : ℕ) (bare' : Bool) : Type 0 where
  pub f : List ℕ
  pub stands : Stands d from to bare' f
  pub reads : page inside (drop from d) ≡ with_bytes f (page inside (drop to d))

-- a field from a place on, and what it is followed by
pub record Found (d : List ℕ) (read : Page) (from to : ℕ) (bare' : Bool) (next : ℕ) (says : List ℕ → Page) : Type 0 where
  pub f : List ℕ
  pub stands : Stands d from to bare' f
  pub reads : read ≡ says f
  pub ahead : to < next
  pub inside' : next ≤ length d

abbrev pub CutAs : List ℕ → Page → Cut → Type 0
CutAs d read (Comma from to b next) = Found d read from to b next (λ f. more f (page fresh (drop next d)))
CutAs d read (Last from to b next) = Found d read from to b next (λ f. last f (page start (drop next d)))
CutAs d read Torn = read ≡ torn

-- ---- one byte
pub special_quote : (b : ℕ) → is_special b ≡ false → (eqb b 44 ≡ false) × (eqb b 13 ≡ false) × ((eqb b 34 || eqb b 10) ≡ false)
    × (eqb b 34 ≡ false)
unfolding is_special
special_quote b e = go (eqb b 44) (eqb b 34) (eqb b 13) (eqb b 10) e
  where
    go : (p q r u : Bool) → (p || (q || (r || u))) ≡ false → (p ≡ false) × (r ≡ false) × ((q || u) ≡ false) × (q ≡ false)
    go true q r u e = holds_not refl e
    go false true r u e = holds_not refl e
    go false false true u e = holds_not refl e
    go false false false true e = holds_not refl e
    go false false false false e = (refl, refl, refl, refl)

pub inside_keeps : (b : ℕ) (s : List ℕ) → (b ≡ 34 → ⊥) → page inside (b ∷ s) ≡ with_byte b (page inside s)
unfolding page page_step taken
inside_keeps b s e = rw (ne_eqb b 34 e)

pub closing_stops : (b : ℕ) (s : List ℕ) → eqb b 34 ≡ false → page closing (b ∷ s) ≡ stop_page (b ∷ s)
unfolding page page_step taken stop_page
closing_stops b s e = rw e (go (eqb b 44) (eqb b 13))
  where
    go : (p r : Bool) → taken (cond p comma (cond r (skip ending) wrong)) (λ m'. page m' s)
        ≡ cond p (more [] (page fresh s)) (cond r (page ending s) torn)
    go true r = refl
    go false true = refl
    go false false = refl

-- ---- bytes in front
pub with_join : (a b : List ℕ) (p : Page) → with_bytes (a ++ b) p ≡ with_bytes a (with_bytes b p)
unfolding with_bytes
with_join [] b p = refl
with_join (x ∷ a) b p = ap (with_byte x) (with_join a b p)

pub with_torn : (s : List ℕ) → with_bytes s torn ≡ torn
unfolding with_bytes with_byte
with_torn [] = refl
with_torn (b ∷ s) = ap (with_byte b) (with_torn s)

pub with_more : (s f : List ℕ) (p : Page) → with_bytes s (more f p) ≡ more (s ++ f) p
unfolding with_bytes with_byte
with_more [] f p = refl
with_more (b ∷ s) f p = ap (with_byte b) (with_more s f p)

pub with_last : (s f : List ℕ) (p : Page) → with_bytes s (last f p) ≡ last (s ++ f) p
unfolding with_bytes with_byte
with_last [] f p = refl
with_last (b ∷ s) f p = ap (with_byte b) (with_last s f p)

-- ---- parts
pub part_none : (d : List ℕ) (i : ℕ) → part d i i ≡ []
part_none d i = let e : i - i ≡ 0 = omega arith in rw e

pub part_more : (d : List ℕ) (from to : ℕ) → from ≤ to → to < length d → part d from (to + 1) ≡ part d from to ++ (get_or d to 0 ∷ [])
part_more d from to h l =
    let e : to + 1 - from ≡ suc (to - from) = omega arith in
    let k : from + (to - from) ≡ to = omega arith in
    let m : to - from < length (drop from d) = rw (length-drop from d) (omega arith) in
    rw e (take-suc (drop from d) (to - from) 0 m ∙ ap (λ (x : ℕ). take (to - from) (drop from d) ++ (x ∷ []))
    (get_or-drop from d (to - from) 0 ∙ ap (λ (x : ℕ). get_or d x 0) k))

pub part_join : (d : List ℕ) (a b c : ℕ) → a ≤ b → b ≤ c → part d a c ≡ part d a b ++ part d b c
part_join d a b c h l =
    let e : c - a ≡ (b - a) + (c - b) = omega arith in
    let k : a + (b - a) ≡ b = omega arith in
    rw e (take-add (b - a) (c - b) (drop a d) ∙ ap (λ (x : List ℕ). take (b - a) (drop a d) ++ take (c - b) x)
    (drop-drop (b - a) a d ∙ ap (λ (x : ℕ). drop x d) k))

-- ---- quotes
pub quote_join : (a b : List ℕ) → has_quote (a ++ b) ≡ (has_quote a || has_quote b)
unfolding has_quote
quote_join [] b = refl
quote_join (x ∷ a) b = rw (quote_join a b) (go (eqb x 34) (has_quote a))
  where
    go : (p q : Bool) → (p || (q || has_quote b)) ≡ ((p || q) || has_quote b)
    go true q = refl
    go false q = refl

pub doubled_join : (a b : List ℕ) → doubled (a ++ b) ≡ doubled a ++ doubled b
unfolding doubled
doubled_join [] b = refl
doubled_join (x ∷ a) b = rw (doubled_join a b) (sym (append_assoc (doubled_byte x) (doubled a) (doubled b)))

pub doubled_bare : (s : List ℕ) → has_quote s ≡ false → doubled s ≡ s
unfolding doubled has_quote doubled_byte
doubled_bare [] e = refl
doubled_bare (b ∷ s) e = go (eqb b 34) e (λ h. doubled_bare s h)
  where
    go : (q : Bool) → (q || has_quote s) ≡ false → (has_quote s ≡ false → doubled s ≡ s) → cond q (34 ∷ 34 ∷ []) (b ∷ []) ++ doubled s ≡ b
        ∷ s
    go true e k = holds_not refl e
    go false e k = ap (λ (l : List ℕ). b ∷ l) (k e)

pub plain_bare : (s : List ℕ) → holds_special s ≡ false → has_quote s ≡ false
unfolding holds_special has_quote
plain_bare [] e = refl
plain_bare (b ∷ s) e = go (is_special b) refl e (λ h. plain_bare s h)
  where
    go : (q : Bool) → is_special b ≡ q → (q || holds_special s) ≡ false → (holds_special s ≡ false → has_quote s ≡ false)
        → (eqb b 34 || has_quote s) ≡ false
    go true w e k = holds_not refl e
    go false w e k = rw (special_quote b w).3 (k e)

pub plain_more : (s : List ℕ) (b : ℕ) → holds_special s ≡ false → is_special b ≡ false → holds_special (s ++ (b ∷ [])) ≡ false
unfolding holds_special
plain_more [] b e w = rw w
plain_more (x ∷ s) b e w = go (is_special x) e (λ h. plain_more s b h w)
  where
    go : (q : Bool) → (q || holds_special s) ≡ false → (holds_special s ≡ false → holds_special (s ++ (b ∷ [])) ≡ false)
        → (q || holds_special (s ++ (b ∷ []))) ≡ false
    go true e k = holds_not refl e
    go false e k = k e

inside_next : (d : List ℕ) (i : ℕ) → i < length d → (get_or d i 0 ≡ 34 → ⊥) → page inside (drop i d)
    ≡ with_bytes (get_or d i 0 ∷ []) (page inside (drop (i + 1) d))
unfolding with_bytes
inside_next d i h e = rw (drop-cons d i 0 h) (inside_keeps (get_or d i 0) (drop (suc i) d) e ∙ rw (add-one i))

-- bytes passed, none of which is one of the four
pub record Bared (d : List ℕ) (from to : ℕ) : Type 0 where
  pub on : from ≤ to
  pub within : to ≤ length d
  pub reads : page bare (drop from d) ≡ with_bytes (part d from to) (page bare (drop to d))
  pub plain : holds_special (part d from to) ≡ false

pub bared_none : (d : List ℕ) (i : ℕ) → i ≤ length d → Bared d i i
unfolding with_bytes holds_special
bared_none d i h = record { on = omega arith; within = h; reads = rw (part_none d i); plain = rw (part_none d i) }

pub bared_to : {d : List ℕ} {from to : ℕ} → Bared d from to → (to < length d → is_special (get_or d to 0) ≡ true) → BareTo d from to
bared_to a s = record { on = a.on; within = a.within; reads = a.reads; plain = a.plain; stops = s }

-- bytes passed, none of which is a quote
pub record Quoted (d : List ℕ) (from to : ℕ) : Type 0 where
  pub on : from ≤ to
  pub within : to ≤ length d
  pub reads : page inside (drop from d) ≡ with_bytes (part d from to) (page inside (drop to d))
  pub plain : has_quote (part d from to) ≡ false

pub quoted_none : (d : List ℕ) (i : ℕ) → i ≤ length d → Quoted d i i
unfolding with_bytes has_quote
quoted_none d i h = record { on = omega arith; within = h; reads = rw (part_none d i); plain = rw (part_none d i) }

pub quoted_more : {d : List ℕ} {from to : ℕ} → Quoted d from to → to < length d → (get_or d to 0 ≡ 34 → ⊥) → Quoted d from (to + 1)
unfolding has_quote
quoted_more {d} {from} {to} a h e = record {
  on = omega (arith, a.on);
  within = omega arith;
  reads = rw (part_more d from to a.on h) (a.reads ∙ ap (with_bytes (part d from to)) (inside_next d to h e)
      ∙ sym (with_join (part d from to) (get_or d to 0 ∷ []) (page inside (drop (to + 1) d))));
  plain = rw (part_more d from to a.on h) (quote_join (part d from to) (get_or d to 0 ∷ []) ∙ rw (a.plain, ne_eqb (get_or d to 0) 34 e));
}

pub quoted_to : {d : List ℕ} {from to : ℕ} → Quoted d from to → (to < length d → get_or d to 0 ≡ 34) → QuoteTo d from to
quoted_to a s = record { on = a.on; within = a.within; reads = a.reads; plain = a.plain; stops = s }

pub bare_stands : {d : List ℕ} {from to : ℕ} → BareTo d from to → Stands d from to true (part d from to)
bare_stands {d} {from} {to} a =
    let q = plain_bare (part d from to) a.plain in
    record { on = a.on; within = a.within; raw = sym (doubled_bare (part d from to) q); plain = rw q }

-- ---- within quotes
pub inside_quote : (d : List ℕ) (i : ℕ) → i < length d → get_or d i 0 ≡ 34 → page inside (drop i d) ≡ page closing (drop (i + 1) d)
unfolding page page_step taken
inside_quote d i h e = rw (drop-cons d i 0 h, eq-eqb (get_or d i 0) 34 e, add-one i)

closing_quote : (d : List ℕ) (i : ℕ) → i < length d → get_or d i 0 ≡ 34 → page closing (drop i d)
    ≡ with_byte 34 (page inside (drop (i + 1) d))
unfolding page page_step taken
closing_quote d i h e = rw (drop-cons d i 0 h, eq-eqb (get_or d i 0) 34 e, add-one i)

pub inside_none : (d : List ℕ) (i : ℕ) → i ≤ length d → InsideTo d i i true
unfolding with_bytes doubled has_quote
inside_none d i h = record { f = []; stands = record { on = omega arith; within = h; raw = part_none d i; plain = refl }; reads = refl }

-- up to a quote
pub inside_run : {d : List ℕ} {from to q : ℕ} {b : Bool} → InsideTo d from to b → QuoteTo d to q → InsideTo d from q b
inside_run {d} {from} {to} {q} {b} a r = record {
  f = a.f ++ part d to q;
  stands = record {
    on = omega (arith, a.stands.on, r.on);
    within = r.within;
    raw = part_join d from to q a.stands.on r.on
        ∙ rw a.stands.raw (ap (λ (x : List ℕ). doubled a.f ++ x) (sym (doubled_bare (part d to q) r.plain))
        ∙ sym (doubled_join a.f (part d to q)));
    plain = a.stands.plain ∙ ap not (sym (none_more (has_quote (a.f ++ part d to q)) (has_quote a.f) (has_quote (part d to q))
        (quote_join a.f (part d to q)) r.plain));
  };
  reads = a.reads ∙ ap (with_bytes a.f) r.reads ∙ sym (with_join a.f (part d to q) (page inside (drop q d)));
}
  where
    or_none : (x : Bool) → (x || false) ≡ x
    or_none true = refl
    or_none false = refl

    none_more : (x y z : Bool) → x ≡ (y || z) → z ≡ false → x ≡ y
    none_more x y z e w = e ∙ rw w (or_none y)

-- a quote written as two
pub inside_two : {d : List ℕ} {from to q : ℕ} {b : Bool} → InsideTo d from to b → QuoteTo d to q → q < length d → q + 1 < length d
    → get_or d (q + 1) 0 ≡ 34
    → InsideTo d from (q + 1 + 1) false
unfolding with_bytes doubled doubled_byte has_quote
inside_two {d} {from} {to} {q} a r h l e =
    let i = inside_run a r in
    let p : part d from (q + 1 + 1) ≡ part d from q ++ (34 ∷ 34 ∷ []) =
    part_more d from (q + 1) (omega (arith, i.stands.on)) l
    ∙ rw (part_more d from q i.stands.on h, r.stops h, e) (append_assoc (part d from q) (34 ∷ []) (34 ∷ [])) in
    record {
      f = i.f ++ (34 ∷ []);
      stands = record {
        on = omega (arith, i.stands.on);
        within = omega arith;
        raw = p ∙ rw i.stands.raw (sym (doubled_join i.f (34 ∷ [])));
        plain = sym (ap not (quote_join i.f (34 ∷ []) ∙ or_true (has_quote i.f)));
      };
      reads = i.reads ∙ ap (with_bytes i.f) (inside_quote d q h (r.stops h) ∙ closing_quote d (q + 1) l e)
          ∙ sym (with_join i.f (34 ∷ []) (page inside (drop (q + 1 + 1) d)));
    }

-- quotes that close
pub record Closed (d : List ℕ) (from q : ℕ) (b : Bool) : Type 0 where
  pub f : List ℕ
  pub stands : Stands d from q b f
  pub reads : page inside (drop from d) ≡ with_bytes f (stop_page (drop (q + 1) d))

-- ---- a field by what stops it
unfoldable pub cut_of : ℕ → ℕ → Bool → Stop → Cut
cut_of from to b (stop.Comma n) = Comma from to b n
cut_of from to b (stop.Last n) = Last from to b n
cut_of from to b stop.Torn = Torn

unfoldable pub quote_at : List ℕ → ℕ → Bool
quote_at d i = cond (ltb i (length d)) (eqb (get_or d i 0) 34) false

pub quote_at_lem : (d : List ℕ) (i : ℕ) → quote_at d i ≡ true → (i < length d) × (get_or d i 0 ≡ 34)
unfolding quote_at
quote_at_lem d i e = go (ltb i (length d)) refl e
  where
    go : (q : Bool) → ltb i (length d) ≡ q → cond q (eqb (get_or d i 0) 34) false ≡ true → (i < length d) × (get_or d i 0 ≡ 34)
    go true w x = (ltb-true i (length d) w, eqb-true (get_or d i 0) 34 x)
    go false w x = holds_not x refl

pub not_quote : (d : List ℕ) (i : ℕ) → quote_at d i ≡ false → i < length d → get_or d i 0 ≡ 34 → ⊥
unfolding quote_at
not_quote d i e h w = holds_not (rw (lt-ltb i (length d) h) (eq-eqb (get_or d i 0) 34 w)) e

module _ {d : List ℕ} {read : Page} {from to : ℕ} {b : Bool} {f : List ℕ} (s : Stands d from to b f) {i : ℕ}
    (e : read ≡ with_bytes f (stop_page (drop i d))) (h : to ≤ i) where
  pub found_comma : {n : ℕ} → StopsAs d i (stop.Comma n) → CutAs d read (Comma from to b n)
  found_comma {n} k = record {
    f = f;
    stands = s;
    reads = e
        ∙ rw k.0 (with_more f [] (page fresh (drop n d)) ∙ rw (append-nil f));
    ahead = omega (arith, k.1);
    inside' = k.2;
  }

  pub found_last : {n : ℕ} → StopsAs d i (stop.Last n) → CutAs d read (Last from to b n)
  found_last {n} k = record {
    f = f;
    stands = s;
    reads = e
        ∙ rw k.0 (with_last f [] (page start (drop n d)) ∙ rw (append-nil f));
    ahead = omega (arith, k.1);
    inside' = k.2;
  }

  pub found_torn : StopsAs d i stop.Torn → CutAs d read Torn
  found_torn k = e ∙ rw k (with_torn f)

  pub found_by : (k : Stop) → StopsAs d i k → CutAs d read (cut_of from to b k)
  unfolding cut_of
  found_by (stop.Comma n) x = found_comma x
  found_by (stop.Last n) x = found_last x
  found_by stop.Torn x = found_torn x

-- what follows begins behind a place
abbrev pub Ahead : ℕ → Cut → Type 0
Ahead at (Comma from to b next) = at < next
Ahead at (Last from to b next) = at < next
Ahead at Torn = Unit

pub ahead_by : (d : List ℕ) (at i from to : ℕ) (b : Bool) → at ≤ i → (k : Stop) → StopsAs d i k → Ahead at (cut_of from to b k)
unfolding cut_of
ahead_by d at i from to b h (stop.Comma n) x = omega (arith, x.1)
ahead_by d at i from to b h (stop.Last n) x = omega (arith, x.1)
ahead_by d at i from to b h stop.Torn x = tt

pub ahead_more : (at at' : ℕ) → at ≤ at' → (c : Cut) → Ahead at' c → Ahead at c
ahead_more at at' h (Comma from to b next) x = omega arith
ahead_more at at' h (Last from to b next) x = omega arith
ahead_more at at' h Torn x = tt

-- the case that was met
pub cut_comma : (d : List ℕ) {read : Page} {at : ℕ} (c : Cut) {p q next : ℕ} {b : Bool} → CutAs d read c × Ahead at c → c ≡ Comma p q b next
    → Found d read p q b next (λ f. more f (page fresh (drop next d))) × (at < next)
cut_comma d c k e = rw e at k

pub cut_last : (d : List ℕ) {read : Page} {at : ℕ} (c : Cut) {p q next : ℕ} {b : Bool} → CutAs d read c × Ahead at c → c ≡ Last p q b next
    → Found d read p q b next (λ f. last f (page start (drop next d))) × (at < next)
cut_last d c k e = rw e at k

pub cut_torn : (d : List ℕ) {read : Page} (c : Cut) → CutAs d read c → c ≡ Torn → read ≡ torn
cut_torn d c k e = rw e at k

-- ---- a cut without its case: whether it is torn, and else whether it ends its line
pub record SpanOf (c : Cut) (from to next : ℕ) (b ends none : Bool) : Type 0 where
  pub torn_is : none ≡ true → c ≡ Torn
  pub last_is : none ≡ false → ends ≡ true → c ≡ Last from to b next
  pub comma_is : none ≡ false → ends ≡ false → c ≡ Comma from to b next

-- a field that was met, whatever stops it
pub record Met (d : List ℕ) (read : Page) (at from to : ℕ) (b : Bool) (next : ℕ) (ends : Bool) : Type 0 where
  pub f : List ℕ
  pub stands : Stands d from to b f
  pub ahead : at < next
  pub inside' : next ≤ length d
  pub comma_met : ends ≡ false → Found d read from to b next (λ g. more g (page fresh (drop next d)))
  pub last_met : ends ≡ true → Found d read from to b next (λ g. last g (page start (drop next d)))

pub span_met : (d : List ℕ) {read : Page} {at : ℕ} (c : Cut) {from to next : ℕ} {b ends none : Bool} → CutAs d read c × Ahead at c
    → SpanOf c from to next b ends none → none ≡ false → Met d read at from to b next ends
span_met d {read} {at} c {from} {to} {next} {b} {ends} {none} k s e = go ends refl
  where
    go : (x : Bool) → ends ≡ x → Met d read at from to b next ends
    go true h =
        let w = cut_last d c k (s.last_is e h) in
        record {
          f = w.0.f;
          stands = w.0.stands;
          ahead = w.1;
          inside' = w.0.inside';
          comma_met = λ z. holds_not h z;
          last_met = λ z. w.0;
        }
    go false h =
        let w = cut_comma d c k (s.comma_is e h) in
        record {
          f = w.0.f;
          stands = w.0.stands;
          ahead = w.1;
          inside' = w.0.inside';
          comma_met = λ z. w.0;
          last_met = λ z. holds_not z h;
        }

-- a cut of what stands from one place to another, without quotes
abbrev pub CutFrom : ℕ → ℕ → Cut → Type 0
CutFrom at i (Comma from to b next) = (from ≡ at) × (to ≡ i) × (b ≡ true)
CutFrom at i (Last from to b next) = (from ≡ at) × (to ≡ i) × (b ≡ true)
CutFrom at i Torn = Unit

pub cut_from : (at i : ℕ) (k : Stop) → CutFrom at i (cut_of at i true k)
unfolding cut_of
cut_from at i (stop.Comma n) = (refl, refl, refl)
cut_from at i (stop.Last n) = (refl, refl, refl)
cut_from at i stop.Torn = tt

pub span_from : (at i : ℕ) (c : Cut) {from to next : ℕ} {b ends none : Bool} → SpanOf c from to next b ends none → none ≡ false
    → CutFrom at i c
    → (from ≡ at) × (to ≡ i) × (b ≡ true)
span_from at i c {from} {to} {next} {b} {ends} s e k = go ends refl
  where
    go : (x : Bool) → ends ≡ x → (from ≡ at) × (to ≡ i) × (b ≡ true)
    go true h = rw (s.last_is e h) at k
    go false h = rw (s.comma_is e h) at k

-- ---- a field whose end was found otherwise: no byte of it is one of the four, and a byte that is one, and no quote, stands behind it
pub record Bounded (d : List ℕ) (from to : ℕ) : Type 0 where
  pub on : from ≤ to
  pub within : to < length d
  pub plain : holds_special (part d from to) ≡ false
  pub stops : is_special (get_or d to 0) ≡ true
  pub unquoted : get_or d to 0 ≡ 34 → ⊥

pub part_rest : (d : List ℕ) (from to : ℕ) → from ≤ to → part d from to ++ drop to d ≡ drop from d
part_rest d from to h =
    let k : from + (to - from) ≡ to = omega arith in
    ap (λ (x : ℕ). part d from to ++ drop x d) (sym k) ∙ ap (λ (x : List ℕ). part d from to ++ x) (sym (drop-drop (to - from) from d))
    ∙ take-append-drop (to - from) (drop from d)

pub cut_as : (d : List ℕ) {a b : Page} → a ≡ b → (c : Cut) → CutAs d b c → CutAs d a c
cut_as d e c k = rw e k
