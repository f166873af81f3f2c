-- Where readers lead: not beyond the end. And behind the head nothing is left to pass over.
use mathlib.Core.Path.{◌≡◌, refl, sym, ap, ◌∙◌}
use mathlib.Core.Bool.{Bool, true, false, cond, not, ◌&&◌}
use mathlib.Core.List.{List, [], ◌∷◌}
use Prim.Native.Nat.{ℕ, ◌+◌, ◌≤◌}
use native.Mathlib.Omega.{arith}
use lib.Dec.{leb, eqb}
use lib.ListN.{length, drop, get_or}
use borrow.Author.Tests.{leb-false}
use Rattle.std.proofs.Common.{Option, Some, None}
use Rattle.markup.specs.rule.Gap.{gap_of}
use Rattle.markup.specs.rule.Grammar.{none}
use Rattle.markup.specs.rule.Reference.{reference_of}
use Rattle.markup.specs.declared.Skip.{Skip}
use Rattle.markup.specs.declared.Skip.TheVariants as skip
use Rattle.markup.proofs.Gaps.{Gapped, gap_exactly}
use Rattle.angles.specs.rule.Angle.{angle_of}
use Rattle.angles.specs.declared.Angle.{Angle}
use Rattle.angles.specs.declared.Angle.TheVariants as angle
use Rattle.tags.specs.rule.Tag.{tag_of}
use Rattle.tags.specs.declared.Held.{Held}
use Rattle.tags.specs.declared.Tag.TheVariants as tag
use Rattle.tags.proofs.Exactly.{none}
use Rattle.pairs.specs.rule.Stand.{on_text_char, text_stand, stand_angle, stand_at, on_gap, stand_of, bare_of}
use Rattle.pairs.specs.declared.Stand.{Stand}
use Rattle.pairs.specs.declared.Stand.TheVariants as stand
use Rattle.prologs.specs.rule.Told.{head_of}
use Rattle.prologs.specs.declared.Prolog.TheVariants.{Read}
use Rattle.prologs.proofs.Whole.{Headed, head_exactly}
use Rattle.prologs.proofs.Whole as headed
use Rattle.prologs.proofs.Exactly.{told, doctype_within}
use Rattle.prologs.proofs.Steps.{gap_within}
use Rattle.tokens.specs.rule.Gap.{fault}
use Rattle.reading.specs.rule.Result.{Is, Not, bind}
use Rattle.reading.specs.rule.Least.{Charge, ◌when◌, named, Finding, clean, first, least, found, judged}
use Rattle.xml_reading.specs.rule.Open.{unknown_at}
use Rattle.xml_reading.specs.rule.Variable.{Manner}
use Rattle.xml_reading.specs.rule.Word.{VERSION, OPTIONS, LANGUAGES, IDENT, HREF, ONE-ONE, ONE-TWO}
use Rattle.xml_reading.specs.rule.Sheet.{says_word, manner, survey, record_tag}
use Rattle.prefaces.specs.Code.{Inside, Ends, reading_of, prefaced_of, entered_of, mannered_of}

-- ---- what stands where a tag is due
abbrev is_foreign : Stand → ℕ
is_foreign (stand.Start p e) = 0
is_foreign (stand.Close p e) = 0
is_foreign (stand.Foreign p) = 1
is_foreign (stand.Text p) = 0
is_foreign (stand.Broken p) = 0

text_none : (d : List ℕ) (p : ℕ) → is_foreign (text_stand d p) ≡ 0
unfolding text_stand
text_none d p = by (eqb (get_or d p 0) 38) (reference_of p (drop (p + 1) d)) where
  by : (x : Bool) (r : Option (ℕ × ℕ)) → is_foreign (cond x (on_text_char p r) (stand.Text p)) ≡ 0
  by true (Some (c, n)) = refl
  by true None = refl
  by false r = refl

pub foreign_in : (bad : Bool) (d : List ℕ) (at p : ℕ) → stand_of bad d at ≡ stand.Foreign p → p ≤ length d
unfolding stand_of stand_at
foreign_in bad d at p f = on (gap_of bad d at) f where
  on : (g : Skip) → on_gap bad d g ≡ stand.Foreign p → p ≤ length d
  on (skip.Broken q) f = let t : ◌≡◌ {A = ℕ} 0 1 = cc in absurd (omega arith)
  on (skip.Past n) f = by (leb (length d) n) (eqb (get_or d n 0) 60) refl f where
    opened : (a : Angle) → leb (length d) n ≡ false → stand_angle n a ≡ stand.Foreign p → p ≤ length d
    opened (angle.Start m) h f = let t : ◌≡◌ {A = ℕ} 0 1 = cc in absurd (omega arith)
    opened (angle.Close m) h f = let t : ◌≡◌ {A = ℕ} 0 1 = cc in absurd (omega arith)
    opened angle.Foreign h f = let j : n ≡ p = cc in omega (arith, leb-false (length d) n h)
    opened (angle.Broken q) h f = let t : ◌≡◌ {A = ℕ} 0 1 = cc in absurd (omega arith)

    by : (x y : Bool) → leb (length d) n ≡ x → cond x (stand.Broken n) (cond y (stand_angle n (angle_of bad d n)) (text_stand d n))
        ≡ stand.Foreign p
        → p ≤ length d
    by true y h f = let t : ◌≡◌ {A = ℕ} 0 1 = cc in absurd (omega arith)
    by false true h f = opened (angle_of bad d n) h f
    by false false h f = let t = sym (text_none d n) ∙ ap is_foreign f in absurd (omega arith)

-- ---- behind the head
pub record Behind (bad : Bool) (d : List ℕ) (n : ℕ) : Type 0 where
  pub inside : n ≤ length d
  pub same : stand_at bad d n ≡ stand_of bad d n

gap_over : (bad : Bool) (d : List ℕ) (p n : ℕ) → Gapped d p n → stand_at bad d n ≡ stand_of bad d n
unfolding stand_of
gap_over bad d p n g = rw ((gap_exactly bad d n n).1 (record { bytes = []; gap = none; split = refl; place = omega arith; over = g.over }))

pub head_in : (bad latin : Bool) (d : List ℕ) (p n : ℕ) (l : Bool) → p ≤ length d → head_of bad latin d p ≡ Read l n → Behind bad d n
head_in bad latin d p n l h e = by refl ((head_exactly bad latin d p (Read l n)).0 e) where
  gap : (k m : ℕ) → k ≤ length d → Gapped d k m → m ≤ length d
  gap k m h g = gap_within bad d k m h ((gap_exactly bad d k m).1 g)

  by : {r : _} → r ≡ Read l n → Headed bad latin d p r → Behind bad d n
  by f (headed.untyped {n = m} g b) = let j : m ≡ n = cc in rw (← j) (record { inside = gap p m h g; same = gap_over bad d p m g })
  by f (headed.typed {n = m} {k = k} {e = e} g b t i) =
      let j : e ≡ n = cc in
      rw (← j) (record { inside = gap k e (doctype_within bad d m latin (gap p m h g) (told bad d m t)) i; same = gap_over bad d k e i })
  by f (headed.ill g b t) = let z : ◌≡◌ {A = ℕ} 0 1 = cc in absurd (omega arith)
  by f (headed.comment g) = let z : ◌≡◌ {A = ℕ} 0 1 = cc in absurd (omega arith)
  by f (headed.later g b t i) = let z : ◌≡◌ {A = ℕ} 0 1 = cc in absurd (omega arith)

-- ---- a tag alone, judged
pub survey_read : (bad : Bool) (d : List ℕ) (p e : ℕ) {h : Held} {em : Bool} {q n : ℕ} → bare_of bad d p e ≡ tag.Read h em q n
    → survey bad d p e ≡ entered_of h.unknown em q n
unfolding survey entered_of
survey_read bad d p e f = rw f

pub record_read : (bad : Bool) (d : List ℕ) (m : Manner) (p e : ℕ) {h : Held} {em : Bool} {q n : ℕ}
    → tag_of bad d p e IDENT (cond m.old [] HREF) [] 3 0 0 1 ≡ tag.Read h em q n → record_tag bad d m p e ≡ entered_of h.unknown em q n
unfolding record_tag entered_of
record_read bad d m p e f = rw f

pub manner_read : (bad : Bool) (d : List ℕ) (latin : Bool) (p e : ℕ) {h : Held} {em : Bool} {q n : ℕ}
    → tag_of bad d p e VERSION OPTIONS LANGUAGES 0 6 0 1 ≡ tag.Read h em q n
    → manner bad d latin p e ≡ mannered_of h (says_word d h.a h.ae ONE-ONE) (says_word d h.a h.ae ONE-TWO) latin em q n
unfolding manner mannered_of
manner_read bad d latin p e f = rw f

pub enter_in : (d : List ℕ) (u : ℕ) (em : Bool) (q n : ℕ) → n ≤ length d → Inside d (reading_of (entered_of u em q n))
unfolding entered_of judged
enter_in d u em q n h = by (least (named (unknown_at u ∷ []))) em where
  by : (x : Finding) (em : Bool) → Inside d (reading_of (bind (found tt n x) (λ a m. cond em (Not (fault 2 q)) (Is a m))))
  by clean true = tt
  by clean false = h
  by (first f) em = tt

pub manner_in : (d : List ℕ) (h : Held) (old new latin em : Bool) (q n : ℕ) → n ≤ length d
    → Ends d (prefaced_of (mannered_of h old new latin em q n))
unfolding mannered_of judged
manner_in d h old new latin em q n l = by (least (named charges)) em where
  charges : List Charge
  charges = fault 4 h.a when (not old && not new) ∷ unknown_at h.unknown ∷ fault 51 h.third when (old && not (eqb h.c 0)) ∷ []

  m : Manner
  m = record { old = old; languages = not (eqb h.c 0); standard = not (eqb h.b 0); latin = latin }

  by : (x : Finding) (em : Bool) → Ends d (prefaced_of (bind (found m n x) (λ a k. cond em (Not (fault 2 q)) (Is a k))))
  by clean true = tt
  by clean false = l
  by (first f) em = tt
