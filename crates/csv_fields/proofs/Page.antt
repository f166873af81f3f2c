-- Theorems of specs/Page.antt, kept here: a wrong definition is refused by them.
use Rattle.std.specs.Prelude.{◌≡◌, refl, Bool, true, false, cond, ◌||◌, ℕ, suc, ◌+◌, ◌≤◌, ◌<◌, eqb, length, drop}
use Rattle.std.specs.Prelude.{get_or}
use Rattle.std.proofs.Common.{sym, ◌∙◌, ⊎_elim, drop_of_length-le, drop-cons}
use Rattle.std.proofs.Math.Path.{ap}
use mathlib.Core.List.{List, [], ◌∷◌, ◌++◌}
use Rattle.std.proofs.Math.Numerals.{add-one}
use native.Mathlib.Omega.{arith}
use borrow.Author.Tests.{eq-eqb, ne_eqb, eqb-false}
use Rattle.below.specs.Below.{holds_not, lt_or_le}
use Rattle.commas.specs.rule.Csv.{is_special, holds_special}
use Rattle.csv_fields.specs.rule.Page.{over, torn, more, last, start, fresh, bare, ending, inside, closing}
use Rattle.csv_fields.specs.rule.Page.{skip, keep, comma, wrong, bare_step, page_step, with_byte, taken, page_at_end, page}
use Rattle.csv_fields.specs.Page.{BareTo, Bared, Bounded, Closed, InsideTo, QuoteTo, closing_stops, inside_quote, inside_run, part}
use Rattle.csv_fields.specs.Page.{part_join, part_more, part_none, part_rest, plain_more, special_quote, stop_page, with_bytes, with_join}
use Rattle.csv_fields.specs.Page.{with_torn}

pub bare_keeps : (b : ℕ) (s : List ℕ) → is_special b ≡ false → page bare (b ∷ s) ≡ with_byte b (page bare s)
unfolding page page_step bare_step taken
bare_keeps b s e = let q = special_quote b e in rw (q.0, q.1, q.2)

pub bare_stops : (b : ℕ) (s : List ℕ) → is_special b ≡ true → page bare (b ∷ s) ≡ stop_page (b ∷ s)
unfolding page page_step bare_step taken stop_page is_special
bare_stops b s e = go (eqb b 44) (eqb b 34) (eqb b 13) (eqb b 10) e
  where
    go : (p q r u : Bool) → (p || (q || (r || u))) ≡ true
        → taken (cond p comma (cond r (skip ending) (cond (q || u) wrong (keep b bare)))) (λ m'. page m' s)
        ≡ cond p (more [] (page fresh s)) (cond r (page ending s) torn)
    go true q r u e = refl
    go false q true u e = refl
    go false true false u e = refl
    go false false false true e = refl
    go false false false false e = holds_not e refl

-- ---- the loops
bare_next : (d : List ℕ) (i : ℕ) → i < length d → is_special (get_or d i 0) ≡ false → page bare (drop i d)
    ≡ with_bytes (get_or d i 0 ∷ []) (page bare (drop (i + 1) d))
unfolding with_bytes
bare_next d i h e = rw (drop-cons d i 0 h) (bare_keeps (get_or d i 0) (drop (suc i) d) e ∙ rw (add-one i))

pub bared_more : {d : List ℕ} {from to : ℕ} → Bared d from to → to < length d → is_special (get_or d to 0) ≡ false → Bared d from (to + 1)
bared_more {d} {from} {to} a h e = record {
  on = omega (arith, a.on);
  within = omega arith;
  reads = rw (part_more d from to a.on h) (a.reads ∙ ap (with_bytes (part d from to)) (bare_next d to h e)
      ∙ sym (with_join (part d from to) (get_or d to 0 ∷ []) (page bare (drop (to + 1) d))));
  plain = rw (part_more d from to a.on h) (plain_more (part d from to) (get_or d to 0) a.plain e);
}

-- ---- what stops a field
next_at : (d : List ℕ) (i : ℕ) {b : ℕ} → i < length d → get_or d i 0 ≡ b → drop i d ≡ b ∷ drop (i + 1) d
next_at d i h e = drop-cons d i 0 h ∙ rw (e, add-one i)

module _ (d : List ℕ) (i : ℕ) where
  pub stop_end : length d ≤ i → stop_page (drop i d) ≡ torn
  unfolding stop_page
  stop_end h = rw (drop_of_length-le d h)

  pub stop_comma : i < length d → get_or d i 0 ≡ 44 → stop_page (drop i d) ≡ more [] (page fresh (drop (i + 1) d))
  unfolding stop_page
  stop_comma h e = rw (drop-cons d i 0 h, eq-eqb (get_or d i 0) 44 e, add-one i)

  pub stop_other : i < length d → (get_or d i 0 ≡ 44 → ⊥) → (get_or d i 0 ≡ 13 → ⊥) → stop_page (drop i d) ≡ torn
  unfolding stop_page
  stop_other h e g = rw (drop-cons d i 0 h, ne_eqb (get_or d i 0) 44 e, ne_eqb (get_or d i 0) 13 g)

  stop_cr : i < length d → get_or d i 0 ≡ 13 → stop_page (drop i d) ≡ page ending (drop (i + 1) d)
  unfolding stop_page
  stop_cr h e = rw (drop-cons d i 0 h, e, add-one i)

  pub stop_cut : i < length d → get_or d i 0 ≡ 13 → length d ≤ i + 1 → stop_page (drop i d) ≡ torn
  unfolding page page_at_end
  stop_cut h e l = stop_cr h e ∙ rw (drop_of_length-le d l)

  pub stop_last : i < length d → get_or d i 0 ≡ 13 → i + 1 < length d → get_or d (i + 1) 0 ≡ 10 → stop_page (drop i d)
      ≡ last [] (page start (drop (i + 2) d))
  unfolding page page_step taken
  stop_last h e l g =
      let k : i + 1 + 1 ≡ i + 2 = omega arith in
      stop_cr h e ∙ ap (page ending) (next_at d (i + 1) l g) ∙ ap (λ (x : ℕ). last [] (page start (drop x d))) k

  pub stop_lone : i < length d → get_or d i 0 ≡ 13 → i + 1 < length d → (get_or d (i + 1) 0 ≡ 10 → ⊥) → stop_page (drop i d) ≡ torn
  unfolding page page_step taken
  stop_lone h e l g = stop_cr h e ∙ rw (drop-cons d (i + 1) 0 l, ne_eqb (get_or d (i + 1) 0) 10 g)

-- at the end of a text
bare_over : (d : List ℕ) (i : ℕ) → length d ≤ i → page bare (drop i d) ≡ stop_page (drop i d)
unfolding page stop_page page_at_end
bare_over d i h = rw (drop_of_length-le d h)

closing_over : (d : List ℕ) (i : ℕ) → length d ≤ i → page closing (drop i d) ≡ stop_page (drop i d)
unfolding page stop_page page_at_end
closing_over d i h = rw (drop_of_length-le d h)

fresh_over : (d : List ℕ) (i : ℕ) → length d ≤ i → page fresh (drop i d) ≡ page bare (drop i d)
unfolding page page_at_end
fresh_over d i h = rw (drop_of_length-le d h)

fresh_other : (d : List ℕ) (i : ℕ) → i < length d → (get_or d i 0 ≡ 34 → ⊥) → page fresh (drop i d) ≡ page bare (drop i d)
unfolding page page_step taken
fresh_other d i h n = rw (drop-cons d i 0 h, ne_eqb (get_or d i 0) 34 n)

-- a field without quotes has ended
pub bare_ends : {d : List ℕ} {from to : ℕ} → BareTo d from to → page bare (drop from d)
    ≡ with_bytes (part d from to) (stop_page (drop to d))
bare_ends {d} {from} {to} a = a.reads ∙ ap (with_bytes (part d from to)) (⊎_elim at_one (bare_over d to) (lt_or_le to (length d)))
  where
    at_one : to < length d → page bare (drop to d) ≡ stop_page (drop to d)
    at_one h = rw (drop-cons d to 0 h) (bare_stops (get_or d to 0) (drop (suc to) d) (a.stops h))

closing_other : (d : List ℕ) (i : ℕ) → (i < length d → get_or d i 0 ≡ 34 → ⊥) → page closing (drop i d) ≡ stop_page (drop i d)
closing_other d i n = ⊎_elim at_one (closing_over d i) (lt_or_le i (length d))
  where
    at_one : i < length d → page closing (drop i d) ≡ stop_page (drop i d)
    at_one h = rw (drop-cons d i 0 h) (closing_stops (get_or d i 0) (drop (suc i) d) (ne_eqb (get_or d i 0) 34 (n h)))

pub inside_closed : {d : List ℕ} {from to q : ℕ} {b : Bool} → InsideTo d from to b → QuoteTo d to q → q < length d
    → (q + 1 < length d → get_or d (q + 1) 0 ≡ 34 → ⊥)
    → Closed d from q b
inside_closed {d} {from} {to} {q} a r h n =
    let i = inside_run a r in
    record {
      f = i.f;
      stands = i.stands;
      reads = i.reads
          ∙ ap (with_bytes i.f) (inside_quote d q h (r.stops h) ∙ closing_other d (q + 1) n);
    }

-- quotes that don't
pub inside_open : {d : List ℕ} {from to q : ℕ} {b : Bool} → InsideTo d from to b → QuoteTo d to q → length d ≤ q → page inside (drop from d)
    ≡ torn
unfolding page page_at_end
inside_open {d} {q = q} a r h = let i = inside_run a r in i.reads ∙ rw (drop_of_length-le d h) (with_torn i.f)

-- ---- where a field is due
module _ (d : List ℕ) (i : ℕ) where
  pub fresh_quote : i < length d → get_or d i 0 ≡ 34 → page fresh (drop i d) ≡ page inside (drop (i + 1) d)
  unfolding page page_step taken
  fresh_quote h e = rw (drop-cons d i 0 h, eq-eqb (get_or d i 0) 34 e, add-one i)

  pub fresh_bare : (i < length d → get_or d i 0 ≡ 34 → ⊥) → page fresh (drop i d) ≡ page bare (drop i d)
  fresh_bare n = ⊎_elim (λ h. fresh_other d i h (n h)) (fresh_over d i) (lt_or_le i (length d))

  -- where a line may start, one does unless the text is over
  pub start_fresh : i < length d → page start (drop i d) ≡ page fresh (drop i d)
  unfolding page page_step
  start_fresh h = rw (drop-cons d i 0 h)

  pub start_over : length d ≤ i → page start (drop i d) ≡ over
  unfolding page page_at_end
  start_over h = rw (drop_of_length-le d h)

plain_first : (b : ℕ) (s : List ℕ) → holds_special (b ∷ s) ≡ false → (is_special b ≡ false) × (holds_special s ≡ false)
unfolding holds_special
plain_first b s e = go (is_special b) e
  where
    go : (q : Bool) → (q || holds_special s) ≡ false → (q ≡ false) × (holds_special s ≡ false)
    go true e = holds_not refl e
    go false e = (refl, e)

bare_run : (s u : List ℕ) → holds_special s ≡ false → page bare (s ++ u) ≡ with_bytes s (page bare u)
unfolding with_bytes
bare_run [] u e = refl
bare_run (b ∷ s) u e = let p = plain_first b s e in bare_keeps b (s ++ u) p.0 ∙ ap (with_byte b) (bare_run s u p.1)

pub bounded_bare : {d : List ℕ} {from to : ℕ} → Bounded d from to → BareTo d from to
bounded_bare {d} {from} {to} a = record {
  on = a.on;
  within = omega (arith, a.within);
  reads = ap (page bare) (sym (part_rest d from to a.on)) ∙ bare_run (part d from to) (drop to d) a.plain;
  plain = a.plain;
  stops = λ h. a.stops;
}

pub bounded_fresh : {d : List ℕ} {from to : ℕ} → Bounded d from to → page fresh (drop from d) ≡ page bare (drop from d)
bounded_fresh {d} {from} {to} a = fresh_bare d from (λ h e. ⊎_elim (λ l. in_front h l e) (λ l. at_end_lem l e) (lt_or_le from to))
  where
    at_end_lem : to ≤ from → get_or d from 0 ≡ 34 → ⊥
    at_end_lem l e = let k : from ≡ to = omega (arith, a.on) in a.unquoted (ap (λ (x : ℕ). get_or d x 0) (sym k) ∙ e)

    in_front : from < length d → from < to → get_or d from 0 ≡ 34 → ⊥
    in_front h l e =
        let p : part d from to ≡ get_or d from 0 ∷ part d (from + 1) to =
        part_join d from (from + 1) to (omega arith) (omega arith)
        ∙ ap (λ (x : List ℕ). x ++ part d (from + 1) to)
        (part_more d from from (omega arith) h ∙ ap (λ (x : List ℕ). x ++ (get_or d from 0 ∷ [])) (part_none d from)) in
        let q = plain_first (get_or d from 0) (part d (from + 1) to) (ap holds_special (sym p) ∙ a.plain) in
        eqb-false (get_or d from 0) 34 (special_quote (get_or d from 0) q.0).3 e
