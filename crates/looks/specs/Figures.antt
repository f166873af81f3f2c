-- Numbers that stand just as they are to be written: digits side by side, and a byte behind them that is of no number.
use Rattle.std.specs.Prelude.{◌≡◌, refl, true, false, List, [], ◌∷◌, ℕ, ◌+◌, ◌-◌, ◌≤◌, ◌<◌, length, get_or}
use Rattle.std.proofs.Common.{◌∙◌, arith}
use Rattle.scan.specs.rule.Text.{text}
use Rattle.scan.specs.rule.Number.{is_value}
use Rattle.scan.specs.Number.{digits_from}
use Rattle.tokens.specs.rule.Gap.{gap_at}
use Rattle.tokens.specs.Gap.{gap_on}
use Rattle.tokens.specs.Over.{over_of}
use Rattle.tokens.specs.Token.{number_on}
use Rattle.tokens.proofs.Gaps.{gap_token}
use Rattle.tokens.proofs.Leads.{lead_number, over_parted, over_dropped, space_parts}
use Rattle.steps.specs.declared.Span.{Span}
use Rattle.steps.specs.Step.{span, number_in, number_span}
use Rattle.looks.specs.declared.Pair.{Pair}
use Rattle.looks.specs.Plain.{Plain}
use Rattle.looks.specs.Stand.{Stands, stands_end, stands_at, stands_first}
use Rattle.looks.specs.Each.{Each, each_as, kept_plain}

pub record DigitAt (d : List ℕ) (j : ℕ) : Type 0 where
  pub within : j < length d
  pub low : 48 ≤ get_or d j 0
  pub high : get_or d j 0 ≤ 57

-- digits from b to before e, which say v so far
pub record Led (d : List ℕ) (b e v : ℕ) : Type 0 where
  pub same : digits_from 0 0 b (text d b) ≡ digits_from v (e - b) e (text d e)
  pub small : v ≤ 1000000000000000
  pub digits : Each (DigitAt d) b e

-- a byte that is kept, and of no number
pub record Parted (d : List ℕ) (at : ℕ) : Type 0 where
  pub within : at < length d
  pub kept : 32 ≤ get_or d at 0
  pub parts : is_value (get_or d at 0) ≡ false

parted_over : {d : List ℕ} {at : ℕ} → Parted d at → over_of (text d at) ≡ true
parted_over {d} {at} p = over_parted d at p.within p.kept p.parts

-- a line's end behind a number, which does not go on behind it
pub record LineOver (d : List ℕ) (at e : ℕ) : Type 0 where
  pub ends : Stands d at (13 ∷ 10 ∷ []) e
  pub over : over_of (text d at) ≡ true

pub line_over : {d : List ℕ} {at e : ℕ} → Stands d at (13 ∷ 10 ∷ []) e → Parted d e → LineOver d at e
line_over {d} {at} {e} s p =
    let a = stands_first s (omega arith) in
    let b = stands_at s 1 (omega arith) in
    let i : at + 1 + 1 ≡ e = omega (arith, stands_end s) in
    record {
      ends = s;
      over = over_dropped d at (omega (arith, s.within, i)) (omega (arith, a))
          (over_dropped d (at + 1) (omega (arith, s.within, i)) (omega (arith, b)) (rw i (parted_over p)));
    }

-- a number, found from any place that a gap leads from to it
pub record Figure (d : List ℕ) (s : Span) : Type 0 where
  pub plain : Plain d s.from s.end
  pub next : s.next ≡ s.end
  pub is : (a : ℕ) → gap_at d a ≡ gap_at d s.from → number_span d a ≡ s

pub figure : {d : List ℕ} {b e v : ℕ} → Led d b e v → (e ≡ b → ⊥) → over_of (text d e) ≡ true → Figure d (span b e e v)
unfolding number_span number_on number_in gap_on
figure {d} {b} {e} {v} l o k =
    let h : b < e = omega (arith, o, l.digits.on) in
    let f = l.digits.each b (omega arith) h in
    let z = l.digits.each (e - 1) (omega arith) (omega arith) in
    record {
      plain = kept_plain (each_as (λ j g. record { within = g.within; above = omega (arith, g.low) }) l.digits)
          (omega (arith, z.within));
      next = refl;
      is = λ a q. rw (
        q,
        gap_token d b f.within (omega (arith, f.low)) (λ y. omega (arith, f.high)),
        lead_number d b e v h l.small l.same k,
      );
    }

-- a number before a space
pub figure_spaced : {d : List ℕ} {b e v c : ℕ} {u : List ℕ} → Led d b e v → (e ≡ b → ⊥) → 0 < length u → get_or u 0 0 ≡ 32 → Stands d e u c
    → Figure d (span b e e v)
figure_spaced {d} {b} {e} l o n z s =
    let q : get_or d e 0 ≡ 32 = stands_first s n ∙ z in
    figure l o (over_parted d e (omega (arith, s.within, stands_end s)) (omega arith) (space_parts (get_or d e 0) q))

-- two numbers of a line, with literals before them and a line's end behind
pub record Paired (d : List ℕ) (g : ℕ) (w u : List ℕ) (p : Pair) : Type 0 where
  pub front : Stands d g w p.first.from
  pub first : Figure d p.first
  pub middle : Stands d p.first.end u p.second.from
  pub second : Figure d p.second
  pub back : Stands d p.second.end (13 ∷ 10 ∷ []) p.end
