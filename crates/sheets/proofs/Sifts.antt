-- A filter or none, by what the code was told of what stands there.
use mathlib.Core.Path.{◌≡◌, refl, ap, ◌∙◌}
use mathlib.Core.Bool.{Bool, true, false, cond}
use mathlib.Core.List.{List}
use Prim.Native.Nat.{ℕ, ◌+◌}
use Rattle.tags.specs.rule.Tag.{is_named}
use Rattle.tokens.specs.declared.Fault.{Fault}
use Rattle.survey.specs.rule.Survey.{KeptText}
use Rattle.reading.specs.rule.Result.{Result, Is, Not, Reader, bind, give}
use Rattle.bridge.specs.Lowest.{never}
use Rattle.xml_reading.specs.rule.Word.{VARIABLE, FILTER}
use Rattle.xml_reading.specs.rule.Open.{start, shut, within_element, either_element, due}
use Rattle.xml_reading.specs.rule.Open as rule
use Rattle.xml_reading.specs.rule.Role.{XmlEntry, filter}
use Rattle.xml_reading.specs.rule.Variable.{Manner, Then, with, filtered}
use Rattle.elements.specs.declared.Open.{Open}
use Rattle.elements.specs.declared.Open.TheVariants as opened
use Rattle.elements.specs.declared.Due.TheVariants as dues
use Rattle.elements.specs.Code.{read_of, starts_of, due_of, Within}
use Rattle.filters.specs.declared.Filtered.TheVariants as found
use Rattle.filters.specs.Code.{filtered_of}
use Rattle.sheets.specs.Code.{sifted_of}

pub sifted_tag : (d : List ℕ) (f : ℕ) (o : Open) → Within d 0 o → Within d 0 (sifted_of (bind (read_of o) λ x n. Is (with f x) n)).tag
sifted_tag d f (opened.Start p e) w = w
sifted_tag d f (opened.Shut p n) w = w
sifted_tag d f (opened.Not g) w = tt

pub filter_is : (x : Result ℕ) {f n : ℕ} → filtered_of x ≡ found.Is f n → x ≡ Is f n
filter_is (Is g m) {f} {n} e = let a : g ≡ f = cc in let b : m ≡ n = cc in rw (a, b)
filter_is (Not g) e = never cc

pub filter_not : (x : Result ℕ) {g : Fault} → filtered_of x ≡ found.Not g → x ≡ Not g
filter_not (Is f m) e = never cc
filter_not (Not h) {g} e = let a : h ≡ g = cc in ap Not a

module _ (bad : Bool) (d : List ℕ) where
  either_starts : {A : Type 0} (w : List ℕ) (o : Open) (k : ℕ → Reader A) (q : rule.Open → Reader A) {p e : ℕ} → starts_of d o w ≡ true
      → due_of (bind (read_of o) λ x. due bad d w x give) ≡ dues.At p e → bind (read_of o) (λ x. either_element bad d w x k (q x)) ≡ k p e
  either_starts {A} w (opened.Start i j) k q {p} {e} h f = by (is_named d (i + 1) j w) h f where
    by : (t : Bool) → t ≡ true → due_of (cond t (give i j) (rule.misplaced bad d {A = ℕ} i j)) ≡ dues.At p e
        → cond t (k i j) (q (start i) j)
        ≡ k p e
    by true h f = let a : i ≡ p = cc in let b : j ≡ e = cc in rw (a, b)
    by false h f = never cc
  either_starts w (opened.Shut i j) k q h f = never cc
  either_starts w (opened.Not g) k q h f = never cc

  pub starts_due : {A : Type 0} (w : List ℕ) (o : Open) {g : Fault} → starts_of d o w ≡ true
      → due_of (bind (read_of o) λ x. due bad d w x give) ≡ dues.Not g → A
  starts_due {A} w (opened.Start i j) {g} h f = by (is_named d (i + 1) j w) h f where
    by : (t : Bool) → t ≡ true → due_of (cond t (give i j) (rule.misplaced bad d {A = ℕ} i j)) ≡ dues.Not g → A
    by true h f = never cc
    by false h f = never cc
  starts_due w (opened.Shut i j) h f = never cc
  starts_due w (opened.Not e) h f = never cc

  either_other : {A : Type 0} (w : List ℕ) (o : Open) (k : ℕ → Reader A) (q : rule.Open → Reader A) → starts_of d o w ≡ false
      → bind (read_of o) (λ x. either_element bad d w x k (q x)) ≡ bind (read_of o) q
  either_other w (opened.Start i j) k q h = rw h
  either_other w (opened.Shut i j) k q h = refl
  either_other w (opened.Not g) k q h = refl

  module _ (m : Manner) (l : List XmlEntry) (name : KeptText) (usage : ℕ) where
    abbrev pub none_at : rule.Open → Reader (Then ℕ)
    none_at x n = Is (with 0 x) n

    abbrev pub filter_at : ℕ → Reader (Then ℕ)
    filter_at p e = bind (filter bad d m.latin m.standard l name usage p e) λ f n. bind (within_element bad d VARIABLE n) λ o k. Is
        (with f o)
        k

    all_by : (o : Open) → m.old ≡ false → bind (read_of o) (filtered bad d m l name usage)
        ≡ bind (read_of o) (λ x. either_element bad d FILTER x filter_at (none_at x))
    unfolding filtered
    all_by (opened.Start i j) e = rw e
    all_by (opened.Shut i j) e = rw e
    all_by (opened.Not g) e = refl

    pub sift_old : (o : Open) → m.old ≡ true → bind (read_of o) (filtered bad d m l name usage) ≡ bind (read_of o) none_at
    unfolding filtered
    sift_old (opened.Start i j) e = rw e
    sift_old (opened.Shut i j) e = rw e
    sift_old (opened.Not g) e = refl

    pub sift_none : (o : Open) → m.old ≡ false → starts_of d o FILTER ≡ false → bind (read_of o) (filtered bad d m l name usage)
        ≡ bind (read_of o) none_at
    sift_none o e h = all_by o e ∙ either_other FILTER o filter_at none_at h

    pub sift_one : (o : Open) {p e : ℕ} → m.old ≡ false → starts_of d o FILTER ≡ true
        → due_of (bind (read_of o) λ x. due bad d FILTER x give)
        ≡ dues.At p e
        → bind (read_of o) (filtered bad d m l name usage) ≡ filter_at p e
    sift_one o g h f = all_by o g ∙ either_starts FILTER o filter_at none_at h f
