-- A gap behind a gap is empty: a token is found from where its gap starts and from where it ends alike.
use Rattle.std.specs.Prelude.{◌≡◌, Bool, ℕ, zero, suc, ◌+◌, ◌-◌, ◌<◌, length, drop, Ok}
use Rattle.std.proofs.Math.Path.{refl}
use Rattle.std.proofs.Common.{◌∙◌, sym, add-one, arith}
use Rattle.std.proofs.Math.Bool.{true, false, cond}
use mathlib.Core.List.{List, [], ◌∷◌}
use Rattle.std.proofs.Math.Dec.{eqb}
use Rattle.std.proofs.Math.Seq.{drop-nil}
use Rattle.ascii.specs.rule.Class.{class_of}
use Rattle.scan.specs.rule.Text.{Text, stop, sign, kept, text, place_of}
use Rattle.scan.specs.rule.Loop.{Next, Again, Done}
use Rattle.scan.specs.rule.Number.{is_space}
use Rattle.scan.proofs.Texts.{from_text}
use Rattle.marks.specs.declared.Skip.{Skip}
use Rattle.marks.specs.declared.Skip.TheVariants.{Past, Unclosed, Bad}
use Rattle.marks.specs.rule.Marks.{comment_of}
use Rattle.tokens.specs.rule.Gap.{gap_skip, gap_step, gap_at, OrFault}
use Rattle.tokens.proofs.Gaps.{gap_less, gap_again, gap_done}
use Rattle.reading.specs.rule.Token.{string}
use Rattle.bridge.specs.Lowest.{never}

tail_of : (d : List ℕ) (at x : ℕ) (s : List ℕ) → drop at d ≡ x ∷ s → drop (at + 1) d ≡ s
tail_of [] at x s e = never (cc (drop-nil at))
tail_of (y ∷ d) zero x s e = cc
tail_of (y ∷ d) (suc at) x s e = rw (add-one (suc at)) (rw (add-one at) at (tail_of d at x s e))

module _ (d : List ℕ) where
  kept_again : (s : List ℕ) (at : ℕ) → drop at d ≡ s → text d (place_of (kept at s)) ≡ kept at s
  unfolding text kept place_of
  kept_again [] at e = rw e
  kept_again (b ∷ s) at e = by (eqb (class_of b) 0) refl (kept_again s (at + 1) (tail_of d at b s e)) where
    by : (q : Bool) → eqb (class_of b) 0 ≡ q → text d (place_of (kept (at + 1) s)) ≡ kept (at + 1) s
        → text d (place_of (cond q (kept (at + 1) s) (sign at b (kept (at + 1) s))))
        ≡ cond q (kept (at + 1) s) (sign at b (kept (at + 1) s))
    by true i ih = ih
    by false i ih = rw e (rw i)

  text_again : (n : ℕ) → text d (place_of (text d n)) ≡ text d n
  unfolding text
  text_again n = kept_again (drop n d) n refl

  step_place : (t : Text) {m : ℕ} → gap_step t ≡ Done (Ok m) → m ≡ place_of t
  unfolding gap_step place_of
  step_place (stop p) e = cc
  step_place (sign p b u) {m} e = by (is_space b) (eqb b 60) (comment_of 1 u) e where
    by : (x y : Bool) (k : Skip) → cond x (Again (p + 1)) (cond y (gap_skip p k) (Done (Ok p))) ≡ Done (Ok m) → m ≡ p
    by true y k e = never cc
    by false true (Past o) e = never cc
    by false true Unclosed e = never cc
    by false true (Bad o) e = never cc
    by false false k e = cc

  twice : (f n : ℕ) → length d - n < f → {m : ℕ} → gap_at d n ≡ Ok m → gap_at d m ≡ Ok m
  twice zero n h e = absurd (omega arith)
  twice (suc f) n h {m} e = by (gap_step (text d n)) refl (λ k l. twice f k l) where
    by : (s : Next ℕ (OrFault ℕ)) → gap_step (text d n) ≡ s → ((k : ℕ) → length d - k < f → gap_at d k ≡ Ok m → gap_at d m ≡ Ok m)
        → gap_at d m ≡ Ok m
    by (Again k) i ih = let l = gap_less d (from_text d n) i in ih k (omega arith) (sym (gap_again d n i) ∙ e)
    by (Done r) i ih =
        let q : gap_step (text d n) ≡ Done (Ok m) = rw (sym (gap_done d n i) ∙ e) at i in
        let p = step_place (text d n) q in
        gap_done d m (rw p (rw (text_again n) (rw p at q)))

  pub gap_twice : (n : ℕ) {m : ℕ} → gap_at d n ≡ Ok m → gap_at d m ≡ Ok m
  gap_twice n e = twice (suc (length d - n)) n (omega arith) e

  pub string_again : (n : ℕ) {m : ℕ} → gap_at d n ≡ Ok m → string d m ≡ string d n
  string_again n e = rw (gap_twice n e, e)
