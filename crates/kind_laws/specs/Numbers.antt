-- "3 never occurs" for a definition in XML (READINGS-02, C-15, point 4); 50, 51 and 52 never for one of 1.1, whose "answers don't change".
use Rattle.std.proofs.Math.Path.{◌≡◌}
use Rattle.std.specs.Prelude.{refl, ◌⊎◌, Bool, true, false, not, ◌&&◌, List, ℕ, ◌≤◌, leb, eqb, ℤ, length}
use Rattle.std.proofs.Common.{sym, ap, ◌∙◌, inl, inr, ⊎_elim, arith, leb-true}
use Rattle.below.specs.Below.{holds_not, and_left, and_right, either_true}
use Rattle.definition.specs.declared.Answer.TheVariants as answer
use Rattle.definition.specs.rule.Definition as sss
use Rattle.refusals.specs.Refusals.{refusal_named, refusal_placed, answered}
use Rattle.prologs.specs.rule.Told.{is_xml}
use Rattle.xml_reading.specs.rule.Whole as xml
use Rattle.kinds.specs.rule.Definition.{of_xml, definition_outcome, answer_of, DefinitionRead}
use Rattle.kinds.proofs.Plain.{plain_read}
use Rattle.kind_laws.specs.Leaves.{Free}
use Rattle.kind_laws.specs.Three.{OutcomeFree, outcome_free}

module _ {d : List ℕ} {t t' : List ℤ} {k p : ℕ} (w : DefinitionRead d t t' (answer.Refused k p)) where
  -- 1 to 10 alone, in the file or at its end
  sss_refused : is_xml d ≡ false → sss.sss_outcome d (length t) ≡ sss.Refusal k p
  sss_refused plain = answered d (length t) k p (sym ((plain_read d plain t t' (answer.Refused k p)).0 w).says)

  pub fifty_never_in_sss : is_xml d ≡ false → (1 ≤ k) × (k ≤ 10)
  fifty_never_in_sss plain = refusal_named d (length t) k p (sss_refused plain)

  pub placed_in_sss : is_xml d ≡ false → p ≤ length d
  placed_in_sss plain = refusal_placed d (length t) k p (sss_refused plain)

  free : is_xml d ≡ true → Free k
  unfolding definition_outcome answer_of
  free x = go (xml.xml_outcome d (length t)) (outcome_free d (length t)) (w.says ∙ rw x) where
    go : (o : xml.XmlOutcome) → OutcomeFree o → answer.Refused k p ≡ answer_of (of_xml o) → Free k
    go (xml.Built l) h e = let z : ◌≡◌ {A = ℕ} 0 1 = cc in absurd (omega arith)
    go (xml.Refusal number place) h e = let u : number ≡ k = cc in rw u at h

  -- 1, 2, 4 to 10 and 50 to 52 alone
  pub numbers_in_xml : is_xml d ≡ true → ((1 ≤ k) × (k ≤ 10) × (k ≡ 3 → ⊥)) ⊎ ((50 ≤ k) × (k ≤ 52))
  numbers_in_xml x = ⊎_elim low high (either_true (leb 1 k && (leb k 10 && not (eqb k 3))) (leb 50 k && leb k 52) (free x)) where
    low : (leb 1 k && (leb k 10 && not (eqb k 3))) ≡ true → ((1 ≤ k) × (k ≤ 10) × (k ≡ 3 → ⊥)) ⊎ ((50 ≤ k) × (k ≤ 52))
    low e =
        let f = and_right (leb 1 k) (leb k 10 && not (eqb k 3)) e in
        let g = and_right (leb k 10) (not (eqb k 3)) f in
        inl (
          leb-true 1 k (and_left (leb 1 k) (leb k 10 && not (eqb k 3)) e),
          leb-true k 10 (and_left (leb k 10) (not (eqb k 3)) f),
          λ h. holds_not g (rw h),
        )

    high : (leb 50 k && leb k 52) ≡ true → ((1 ≤ k) × (k ≤ 10) × (k ≡ 3 → ⊥)) ⊎ ((50 ≤ k) × (k ≤ 52))
    high e = inr (leb-true 50 k (and_left (leb 50 k) (leb k 52) e), leb-true k 52 (and_right (leb 50 k) (leb k 52) e))

  pub three_never_in_xml : is_xml d ≡ true → k ≡ 3 → ⊥
  three_never_in_xml x e = ⊎_elim (λ n. n.2 e) (λ n. omega (arith, n.0)) (numbers_in_xml x)
