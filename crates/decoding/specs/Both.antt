-- The promise of the call from that of either kind, and back: what is proved of one kind holds of the call for definitions of that kind.
use Rattle.std.specs.Prelude.{◌≡◌, true, false, List, ℕ, ℤ, length}
use Rattle.std.proofs.Common.{◌∙◌}
use Rattle.texts.specs.declared.Decoded.{Decoded}
use Rattle.texts.specs.rule.Decode.{decoded_as, signs_at, TextDecoded}
use Rattle.stretches.specs.rule.Stretch.{stretch_as, stretch_signs, StretchDecoded}
use Rattle.prologs.specs.rule.Told.{is_xml}
use Rattle.scripts.specs.rule.Script.{latin_of}
use Rattle.decoding.specs.rule.Both.{both_as, both_signs, BothDecoded}

module _ (d : List ℕ) (place long : ℕ) where
  as_plain : (n : ℕ) → is_xml d ≡ false → both_as d place long n ≡ decoded_as d place long n
  unfolding both_as
  as_plain n e = rw e

  signs_plain : is_xml d ≡ false → both_signs d place long ≡ signs_at d place long
  unfolding both_signs
  signs_plain e = rw e

  as_xml : (n : ℕ) → is_xml d ≡ true → both_as d place long n ≡ stretch_as (latin_of d) d place long n
  unfolding both_as
  as_xml n e = rw e

  signs_xml : is_xml d ≡ true → both_signs d place long ≡ stretch_signs (latin_of d) d place long
  unfolding both_signs
  signs_xml e = rw e

  module _ {list list' : List ℤ} {r : Decoded} where
    pub both_xml : is_xml d ≡ true → StretchDecoded (latin_of d) d place long list list' r → BothDecoded d place long list list' r
    both_xml e p = record { says = rw (as_xml (length list) e) p.says; leaves = rw (as_xml (length list) e, signs_xml e) p.leaves }

    pub both_plain : is_xml d ≡ false → TextDecoded d place long list list' r → BothDecoded d place long list list' r
    both_plain e p = record {
      says = rw (as_plain (length list) e) p.says;
      leaves = rw (as_plain (length list) e, signs_plain e)
          p.leaves;
    }

    pub xml_both : is_xml d ≡ true → BothDecoded d place long list list' r → StretchDecoded (latin_of d) d place long list list' r
    xml_both e p = record { says = p.says ∙ as_xml (length list) e; leaves = p.leaves ∙ rw (as_xml (length list) e, signs_xml e) }

    pub plain_both : is_xml d ≡ false → BothDecoded d place long list list' r → TextDecoded d place long list list' r
    plain_both e p = record { says = p.says ∙ as_plain (length list) e; leaves = p.leaves ∙ rw (as_plain (length list) e, signs_plain e) }
