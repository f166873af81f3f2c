-- What is passed at a look: line ends, references, comments, breaks; and end tags that are told so.
use mathlib.Core.Path.{◌≡◌, refl, sym, ap, ◌∙◌}
use mathlib.Core.Bool.{Bool, true, false, cond, ◌&&◌}
use mathlib.Core.List.{List, [], ◌∷◌, append-nil}
use Prim.Native.Nat.{ℕ, ◌+◌, ◌≤◌, ◌<◌}
use native.Mathlib.Omega.{arith}
use lib.Dec.{leb, eqb}
use lib.ListN.{length, drop, get_or}
use borrow.Author.Tests.{lt-leb}
use Rattle.std.proofs.Common.{Some}
use Rattle.utf.proofs.Strides.{drop_1}
use Rattle.signs.specs.declared.Sign.TheVariants as sign
use Rattle.markup.specs.rule.Bytes.{is_white, of_kind, starts_name, run_of, stands}
use Rattle.markup.specs.rule.Reference.{reference_of}
use Rattle.markup.specs.rule.Gap.{xml_comment}
use Rattle.markup.specs.rule.Grammar.{no_more}
use Rattle.markup.specs.declared.Skip.TheVariants as skip
use Rattle.markup.proofs.Runs.{run_over}
use Rattle.markup.proofs.Gaps.{stands_split}
use Rattle.angles.specs.rule.Angle.{close_of, angle_of, end_of}
use Rattle.tags.specs.rule.Tag.{is_named}
use Rattle.pairs.specs.rule.Stand.{shut_of}
use Rattle.pairs.specs.rule.Grammar.{behind, first_of}
use Rattle.pairs.specs.rule.Grammar as grammar
use Rattle.pairs.proofs.Lies.{Lies, split_lies}
use Rattle.pairs.proofs.Given.{first_none}
use Rattle.contents.specs.rule.Grammar.{text, alone}
use Rattle.contents.specs.rule.Step.{mode_in, close_at, mark_at, step_of}
use Rattle.contents.specs.rule.Content.{content_from}
use Rattle.contents.specs.declared.Said.TheVariants as said
use Rattle.contents.specs.declared.Content.TheVariants.{Read}
use Rattle.contents.specs.declared.Step.TheVariants.{More, Over}
use Rattle.contents.specs.Pass.{Passes, Walks, Closes}
use Rattle.contents.proofs.Views.{nothing}
use Rattle.contents.proofs.Goes.{step_on, content_next}
use Rattle.contents.proofs.Pieces.{stand, StepTo, step_return, step_refer, step_note, piece_step}

-- ---- whatever the text
pub passes_return : (d : List ℕ) (p : ℕ) → p < length d → get_or d p 0 ≡ 13 → Passes d p (p + 1)
passes_return d p h e = record {
  again = λ bad m w i u. content_next bad d m w (stand i u p) (stand i u (p + 1)) _
      (step_return false bad d m w (stand i u p) (stands (10 ∷ []) (drop (p + 1) d)) h e refl);
  on = omega arith;
  within = omega arith;
}

pub passes_refer : (d : List ℕ) (p c n : ℕ) → p < length d → get_or d p 0 ≡ 38 → reference_of p (drop (p + 1) d) ≡ Some (c, n)
    → Passes d p n
passes_refer d p c n h f e =
    let o = step_on false d 0 [] (stand false 0 p) (stand false 0 n) _ (step_refer false false d 0 [] (stand false 0 p) c n h f e) in
    record {
      again = λ bad m w i u. content_next bad d m w (stand i u p) (stand i u n) _ (step_refer false bad d m w (stand i u p) c n h f e);
      on = omega (arith, o.0);
      within = o.1;
    }

-- ---- in a text of a mode
module _ (bad : Bool) (d : List ℕ) (k p : ℕ) where
  pub walks_none : p ≤ length d → Walks bad d k p p
  walks_none h = record { again = λ m w i u e. refl; on = omega arith; within = h }

  pub walks_passes : {r : ℕ} → Passes d p r → Walks bad d k p r
  walks_passes x = record { again = λ m w i u e. x.again bad m w i u; on = x.on; within = x.within }

  pub walks_join : {q r : ℕ} → Walks bad d k p q → Walks bad d k q r → Walks bad d k p r
  walks_join x y =
      let a = x.on in
      let b = y.on in
      record { again = λ m w i u e. x.again m w i u e ∙ y.again m w i u e; on = omega arith; within = y.within }

  pub walks_note : (n : ℕ) → p < length d → get_or d p 0 ≡ 60 → stands (60 ∷ 33 ∷ 45 ∷ 45 ∷ []) (drop p d) ≡ true
      → xml_comment bad p (p + 4) (drop (p + 4) d) ≡ skip.Past n → Walks bad d k p n
  walks_note n h f x e =
      let o = step_on bad d 0 [] (stand false 0 p) (stand false 0 n) _ (step_note false bad d 0 [] (stand false 0 p) n h f x e) in
      record {
        again = λ m w i u md. content_next bad d m w (stand i u p) (stand i u n) _ (step_note false bad d m w (stand i u p) n h f x e);
        on = omega (arith, o.0);
        within = o.1;
      }

  module _ (h : leb 1 k ≡ true) (e : stands (60 ∷ 98 ∷ 114 ∷ 47 ∷ 62 ∷ []) (drop p d) ≡ true) where
    lies : Lies d p (p + 5) (60 ∷ 98 ∷ 114 ∷ 47 ∷ 62 ∷ [])
    lies = let s = stands_split (60 ∷ 98 ∷ 114 ∷ 47 ∷ 62 ∷ []) (drop p d) e in
        split_lies d p (p + 5) (60 ∷ 98 ∷ 114 ∷ 47 ∷ 62 ∷ []) s.0 s.1 (omega arith)

    break_step : (m : ℕ) (w : List ℕ) (i : Bool) (u : ℕ) → mode_in m i ≡ k
        → StepTo false bad d m w (stand i u p) (stand i (first_of u 0) (p + 5)) (cond i [] (sign.Break ∷ []))
    break_step m w i u md = piece_step false bad d m w i u p k {s = drop (p + 5) d} md (alone h (behind grammar.none no_more)) [] lies
        (sym (append-nil (drop (p + 5) d))) nothing

    pub walks_break : Walks bad d k p (p + 5)
    walks_break = record {
      again = λ m w i u md.
          let s = break_step m w i u md in
          content_next bad d m w (stand i u p) (stand i (first_of u 0) (p + 5)) s.said s.steps
          ∙ ap (λ (t : ℕ). content_from bad d m w (stand i t (p + 5))) (sym (first_none u));
      on = omega arith;
      within = (step_on bad d k [] (stand false 0 p) (stand false 0 (p + 5)) _ (break_step k [] false 0 refl).steps).1;
    }

-- ---- end tags
over_no_white : of_kind 0 62 ≡ false
unfolding of_kind is_white
over_no_white = refl

-- </, a name up to e and > there
pub closes : (d : List ℕ) (p : ℕ) (w : List ℕ) (e : ℕ) → p + 2 < length d → get_or d p 0 ≡ 60 → get_or d (p + 1) 0 ≡ 47
    → starts_name (get_or d (p + 2) 0) ≡ true → e ≡ run_of (of_kind 1) (p + 2) (drop (p + 2) d) → e < length d → get_or d e 0 ≡ 62
    → is_named d (p + 2) e w ≡ true → Closes d p w (e + 1)
unfolding angle_of close_of shut_of end_of
closes d p w e h f g k r l t n =
    let q : run_of (of_kind 0) e (drop e d) ≡ e = run_over (of_kind 0) d e l (rw t over_no_white) in
    record {
      end = e;
      inside = omega arith;
      less = f;
      slash = g;
      opens = λ bad. rw (lt-leb (length d) (p + 1) (omega arith), g, lt-leb (length d) (p + 2) h, k, ← r);
      shuts = λ bad. rw (q, lt-leb (length d) e l, t, n);
    }

no_note : (d : List ℕ) (p : ℕ) → p + 1 < length d → get_or d (p + 1) 0 ≡ 47 → stands (60 ∷ 33 ∷ 45 ∷ 45 ∷ []) (drop p d) ≡ false
unfolding stands
no_note d p h e = rw (drop_1 d p (omega arith), drop_1 d (p + 1) h, e) (and_false (eqb (get_or d p 0) 60)) where
  and_false : (b : Bool) → (b && false) ≡ false
  and_false true = refl
  and_false false = refl

module _ (bad : Bool) (d : List ℕ) (m : ℕ) (w : List ℕ) (i : Bool) (u p n : ℕ) where
  pub closes_end : i ≡ false → Closes d p w n → step_of bad d m w (stand i u p) ≡ Over (Read p n u)
  unfolding step_of mark_at close_at
  closes_end e c =
      let h = c.inside in
      rw (e, lt-leb (length d) p (omega arith), c.less, no_note d p h c.slash, c.opens bad, c.shuts bad)

  pub closes_leave : i ≡ true → Closes d p text n → step_of bad d m w (stand i u p) ≡ More (stand false u n) said.Nothing
  unfolding step_of mark_at close_at
  closes_leave e c =
      let h = c.inside in
      rw (e, lt-leb (length d) p (omega arith), c.less, no_note d p h c.slash, c.opens bad, c.shuts bad)
