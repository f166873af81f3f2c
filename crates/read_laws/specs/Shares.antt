-- The forms of a field under point code 2, in the paper's words: "the whole part may then be empty in the data". Spaces, a minus or none,
-- digits or none, the point, the decimals: the bytes say a number exactly when they have this form and it says it.
use Rattle.std.specs.Prelude.{◌≡◌, refl, Bool, List, ◌∷◌, ◌++◌, ℕ, ℤ, length}
use Rattle.std.proofs.Common.{ap, ◌∙◌, arith}
use Rattle.cells.specs.rule.Cell.{number_of}
use Rattle.layout.specs.declared.Format.{Format}
use Rattle.widths.specs.Width.{least_none}
use Rattle.fields.specs.rule.Number.{says, quantity_of}
use Rattle.numbers.specs.rule.Format.{FormatFacts}
use Rattle.read_laws.specs.rule.Forms.{Spaces, Digits, Sign, Tail, without, point, QuantityForm}
use Rattle.read_laws.specs.Forms.{quantity_exactly}

pub record ShareForm (decimals : ℕ) (s : List ℕ) (z : ℤ) : Type 0 where
  pub gap : List ℕ
  pub sign : List ℕ
  pub whole : List ℕ
  pub behind : List ℕ
  pub negative : Bool
  pub size : ℕ
  pub made : s ≡ gap ++ (sign ++ (whole ++ 46 ∷ behind))
  pub blank_gap : Spaces gap
  pub signed : Sign negative sign
  pub counted : length behind ≡ decimals
  pub said : Digits 0 (whole ++ behind) size
  pub is : z ≡ number_of negative size

module _ (f : Format) (facts : FormatFacts f) (share : f.point ≡ 2) where
  from_tail : (s : List ℕ) (z : ℤ) (q : QuantityForm f s z) {t ds : List ℕ} → q.tail ≡ t → q.decimals ≡ ds → Tail f t ds
      → ShareForm f.decimals s z
  from_tail s z q a b (without p) = absurd (omega arith)
  from_tail s z q {ds = ds} a b (point p l) = record {
    gap = q.gap;
    sign = q.sign;
    whole = q.whole;
    behind = ds;
    negative = q.negative;
    size = q.size;
    made = q.made ∙ ap (λ (t : List ℕ). q.gap ++ (q.sign ++ (q.whole ++ t))) a;
    blank_gap = q.blank_gap;
    signed = q.signed;
    counted = l;
    said = rw b at q.said;
    is = q.is;
  }

  to_form : (s : List ℕ) (z : ℤ) → ShareForm f.decimals s z → QuantityForm f s z
  to_form s z q = record {
    gap = q.gap;
    sign = q.sign;
    whole = q.whole;
    tail = 46 ∷ q.behind;
    decimals = q.behind;
    negative = q.negative;
    size = q.size;
    made = q.made;
    blank_gap = q.blank_gap;
    signed = q.signed;
    some = rw (least_none f share) (omega arith);
    tailed = point (λ e. omega arith) q.counted;
    said = q.said;
    is = q.is;
  }

  -- THE BYTES OF A FIELD UNDER POINT CODE 2 SAY z EXACTLY WHEN they have this form
  pub share_exactly : (s : List ℕ) (z : ℤ)
      → (quantity_of f s ≡ says z → ShareForm f.decimals s z) × (ShareForm f.decimals s z → quantity_of f s ≡ says z)
  share_exactly s z = (
    λ e. let q = (quantity_exactly f facts s z).0 e in from_tail s z q refl refl q.tailed,
    λ q. (quantity_exactly f facts s z).1 (to_form s z q),
  )
