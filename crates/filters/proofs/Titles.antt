-- A variable's start tag, judged: 5 and 8 of its ident, 51, 52 stand in the order of their numbers, so that the first that is met is the
-- least.
use Rattle.std.specs.Prelude.{Ok, Err}
use mathlib.Core.Path.{◌≡◌, refl, ◌∙◌, sym, ap}
use mathlib.Core.Bool.{Bool, true, false, cond, not, ◌||◌}
use mathlib.Core.List.{List, [], ◌∷◌, ◌++◌}
use Prim.Native.Nat.{ℕ, suc, ◌≤◌, ◌<◌}
use native.Mathlib.Omega.{arith}
use lib.Dec.{eqb, ltb, leb}
use lib.IntN.{ℤ}
use lib.ListN.{length}
use borrow.Author.Tests.{lt-ltb, le-ltb, le-leb, ltb-false}
use Rattle.scan.specs.Number.{capped}
use Rattle.tokens.specs.rule.Gap.{fault, OrFault}
use Rattle.tokens.specs.declared.Figures.{Figures}
use Rattle.tags.specs.rule.Tag.{stretch_fits}
use Rattle.tags.specs.declared.Held.{Held}
use Rattle.tags.specs.declared.Tag.{Tag}
use Rattle.tags.specs.declared.Tag.TheVariants as tag
use Rattle.variables.specs.Ident.{marked, wrong_ident, judge_ident}
use Rattle.survey.specs.rule.Survey.{Figure, Variable}
use Rattle.survey.specs.rule.Width.{some_of}
use Rattle.reading.specs.rule.Result.{Result, Is, Not, bind}
use Rattle.reading.specs.rule.Least.{Charge, ◌when◌, goes_before, judged}
use Rattle.reading.specs.rule.Variable.{ident_charges}
use Rattle.bridge.specs.Lowest.{chain, rising, chain_least}
use Rattle.bridge.specs.Tokens.{to_number}
use Rattle.xml_reading.specs.rule.Word.{IDENT, TYPE, USE}
use Rattle.xml_reading.specs.rule.Open.{unknown_at}
use Rattle.xml_reading.specs.rule.Element.{figure_of}
use Rattle.xml_reading.specs.rule.Role.{XmlEntry, Title, variables_of, type_at, use_at, use_wrong, title}
use Rattle.filters.specs.Code.{RowsOf, UseSaid, Idents, titled_of, titled_next, titled_by, title_tag, TitleSaid}
use Rattle.filters.specs.declared.Titled.{Titled}
use Rattle.filters.specs.declared.Titled.TheVariants as titled
use Rattle.elements.proofs.Bounds.{tag_within}
use Rattle.filters.proofs.Figured.{few_digits}
use Rattle.filters.proofs.Slots.{Held-two, two_held}

variables_count : (l : List XmlEntry) → length (variables_of l) ≡ length l
variables_count [] = refl
variables_count (v ∷ l) = ap suc (variables_count l)

-- a start tag whose ident is x
module _ (met : ℕ → Bool) (earlier : List Variable) (knows : (n : ℕ) → met n ≡ some_of (λ v. eqb v.ident.value n) earlier) (x : Figure)
    (few : x.digits ≤ 4 → x.value < 10000) (u at kind usage : ℕ) (w em : Bool) (q n : ℕ) where
  abbrev charges : List Charge
  charges = ident_charges earlier x ++ unknown_at u ∷ fault 52 at when w ∷ []

  abbrev is : Title
  is = record { ident = x; type = kind; usage = usage }

  abbrev to : Result Title → Titled
  to r = titled_of (bind r (λ a m. cond em (Not (fault 2 q)) (Is a m)))

  charges_rise : rising charges ≡ true
  unfolding rising goes_before ident_charges
  charges_rise = rw (le-leb x.place x.place (omega arith))

  -- behind the ident
  last : to (Is is n) ≡ cond em (titled.Not (fault 2 q)) (titled.Is (capped x.value) kind usage n)
  last = by em where
    by : (b : Bool) → titled_of (cond b (Not (fault 2 q)) (Is is n))
        ≡ cond b (titled.Not (fault 2 q)) (titled.Is (capped x.value) kind usage n)
    by true = refl
    by false = refl

  abbrev rest : Titled
  rest = cond (not (eqb u 0)) (titled.Not (fault 51 u)) (cond w (titled.Not (fault 52 at)) (to (Is is n)))

  rest_is : titled_by (Ok (record { size = capped x.value; count = x.digits; place = x.place; next = n })) u w at em q kind usage
      ≡ rest
  rest_is = rw last (by (eqb u 0)) where
    by : (b : Bool) → cond b (cond w (titled.Not (fault 52 at))
        (cond em (titled.Not (fault 2 q)) (titled.Is (capped x.value) kind usage n))) (titled.Not (fault 51 u))
        ≡ cond (not b) (titled.Not (fault 51 u)) (cond w (titled.Not (fault 52 at))
        (cond em (titled.Not (fault 2 q)) (titled.Is (capped x.value) kind usage n)))
    by true = refl
    by false = refl

  rest_sized : (s : ℕ) → s ≡ capped x.value → titled_by (Ok (record { size = s; count = x.digits; place = x.place; next = n })) u
      w at em q kind usage ≡ rest
  rest_sized s e = rw e rest_is

  chained : titled_by (judge_ident met (length earlier) (to_number (Is x n))) u w at em q kind usage
      ≡ chain titled.Not (to (Is is n)) charges
  unfolding judge_ident wrong_ident chain ident_charges
  chained = by (ltb 4 x.digits) refl where
    five : Titled
    five = titled.Not (fault 5 x.place)

    over : (z : Bool) → five ≡ cond z five five
    over true = refl
    over false = refl

    small : x.digits ≤ 4 → capped x.value ≡ x.value
    small h = let v = few h in rw (le-ltb 1000000000000000 x.value (omega arith))

    by : (b : Bool) → ltb 4 x.digits ≡ b → titled_by (judge_ident met (length earlier) (to_number (Is x n))) u w at em q kind usage
        ≡ chain titled.Not (to (Is is n)) charges
    by true e = rw e (over (eqb x.value 0))
    by false e =
        let h = ltb-false 4 x.digits e in
        rw (e, small h, lt-ltb x.value 10000 (few h), knows x.value)
        (on (eqb x.value 0) (some_of (λ v. eqb v.ident.value x.value) earlier) (leb 512 (length earlier))) where
          on : (z s b : Bool)
              → titled_by (cond (z || s) (Err (fault 5 x.place)) (cond b (Err (fault 8 x.place))
              (Ok (record { size = x.value; count = x.digits; place = x.place; next = n })))) u w at em q kind usage
              ≡ cond z five (cond false five (cond s five (cond b (titled.Not (fault 8 x.place)) rest)))
          on true s b = refl
          on false true b = refl
          on false false true = refl
          on false false false = rest_sized x.value (sym (small (ltb-false 4 x.digits e)))

  pub title_judged : titled_by (judge_ident met (length earlier) (to_number (Is x n))) u w at em q kind usage
      ≡ titled_of (bind (judged charges is n) (λ a m. cond em (Not (fault 2 q)) (Is a m)))
  title_judged = chained ∙ chain_least to is n charges charges_rise

-- ---- as the code has it
abbrev number_next : OrFault Figures → ℕ
number_next (Ok x) = x.next
number_next (Err f) = 0

judged_next : (met : ℕ → Bool) (count : ℕ) (x : Figures) → number_next (judge_ident met count (Ok x)) ≤ x.next
unfolding judge_ident
judged_next met count x = by (wrong_ident met x) (leb 512 count) where
  by : (a b : Bool) → number_next (cond a (Err (fault 5 x.place)) (cond b (Err (fault 8 x.place)) (Ok x)))
      ≤ x.next
  by true b = omega arith
  by false true = omega arith
  by false false = omega arith

titled_next_lem : (i : OrFault Figures) (u : ℕ) (w : Bool) (at : ℕ) (em : Bool) (q kind usage m : ℕ) → number_next i ≤ m
    → titled_next (titled_by i u w at em q kind usage) ≤ m
titled_next_lem (Err f) u w at em q kind usage m h = omega arith
titled_next_lem (Ok x) u w at em q kind usage m h = by (eqb u 0) w em where
  by : (a b c : Bool) → titled_next (cond a (cond b (titled.Not (fault 52 at))
      (cond c (titled.Not (fault 2 q)) (titled.Is x.size kind usage x.next))) (titled.Not (fault 51 u))) ≤ m
  by true true c = omega arith
  by true false true = omega arith
  by true false false = h
  by false b c = omega arith

-- what the tag holds, and where it ends
pub record TitleHeld (d : List ℕ) (old : Bool) (h : Held) (n : ℕ) : Type 0 where
  pub held : Held-two d 1 4 (cond old 0 5) h
  pub next : n ≤ length d

pub title_held : (bad : Bool) (d : List ℕ) (old : Bool) (p e : ℕ) {r : Tag} {h : Held} {em : Bool} {q n : ℕ}
    → r ≡ title_tag bad d old p e → r ≡ tag.Read h em q n → TitleHeld d old h n
title_held bad d old p e {h = h} {em = em} {q = q} {n = n} s t = record {
  held = two_held d 1 4 (cond old 0 5) bad p e IDENT TYPE (cond old [] USE) (sym s ∙ t);
  next = (tag_within bad d p IDENT TYPE (cond old [] USE) 1 4 (cond old 0 5) 2 e h em q n (sym s ∙ t)).2;
}

module _ (bad : Bool) (d : List ℕ) (old : Bool) (seen : List ℕ) (rows : List ℤ) (count p e : ℕ) where
  pub title_faulty : (number place : ℕ) → title_tag bad d old p e ≡ tag.Fault number place
      → TitleSaid bad d old seen rows count p e (titled.Not (fault number place))
  unfolding title
  title_faulty number place f = record { is = λ l r k. rw f; next = omega arith }

  module _ (h : Held) (em : Bool) (q n : ℕ) (t : title_tag bad d old p e ≡ tag.Read h em q n) (fits : stretch_fits 1 d h.a h.ae ≡ true)
      (m : n ≤ length d) where
    pub title_read : (w : Bool) → UseSaid rows count (use_at d h.c h.ce) (type_at d h.b h.be) w
        → TitleSaid bad d old seen rows count p e
        (titled_by (judge_ident (marked seen) count (to_number (Is (figure_of d h.a h.ae) n))) h.unknown w h.c em q
        (type_at d h.b h.be) (use_at d h.c h.ce))
    unfolding title
    title_read w u = record {
      is = said;
      next = titled_next_lem (judge_ident (marked seen) count (Ok figures)) h.unknown w h.c em q
          (type_at d h.b h.be) (use_at d h.c h.ce) (length d) (omega (arith, judged_next (marked seen) count figures));
    } where
      x : Figure
      x = figure_of d h.a h.ae

      figures : Figures
      figures = record { size = capped x.value; count = x.digits; place = x.place; next = n }

      said : (l : List XmlEntry) → RowsOf rows count l → Idents seen l
          → titled_by (judge_ident (marked seen) count (to_number (Is (figure_of d h.a h.ae) n))) h.unknown w h.c em q
          (type_at d h.b h.be) (use_at d h.c h.ce)
          ≡ titled_of (title bad d old l p e)
      said l r k =
          let c : length (variables_of l) ≡ count = variables_count l ∙ r.counted in
          rw (t, ← c, u.is l r)
          (title_judged (marked seen) (variables_of l) k (figure_of d h.a h.ae) (few_digits d h.a h.ae fits) h.unknown h.c
          (type_at d h.b h.be) (use_at d h.c h.ce) (use_wrong l (use_at d h.c h.ce) (type_at d h.b h.be)) em q n)
