-- Which file is XML, its declaration, what stands before its root and behind it: each answer in words, both ways.
use mathlib.Core.Path.{◌≡◌, refl}
use mathlib.Core.Logic.{⊎_elim, ◌↔◌}
use mathlib.Core.Bool.{Bool, true, false, cond, ◌||◌}
use mathlib.Core.List.{List, [], ◌∷◌}
use Prim.Native.Nat.{ℕ, ◌≤◌, ◌<◌}
use lib.Dec.{leb, ltb}
use lib.ListN.{length, drop}
use borrow.Author.Tests.{le-leb, lt-leb, leb-true, leb-false}
use Rattle.below.specs.Below.{either_true, or_true}
use Rattle.markup.specs.rule.Bytes.{stands}
use Rattle.markup.specs.rule.Gap.{gap_of}
use Rattle.markup.specs.declared.Skip.{Skip}
use Rattle.markup.specs.declared.Skip.TheVariants.{Past, Broken}
use Rattle.markup.proofs.Gaps.{Gapped, gap_exactly}
use Rattle.prologs.specs.rule.Form.{XML, SSS, DOCTYPE, declaration, doctype}
use Rattle.prologs.specs.rule.Told.{start_behind_mark, is_xml, tell_of, declaration_of, on_passed, gap_to, gap_on, head_of, end_of_file}
use Rattle.prologs.specs.rule.Told.{behind_root, tail_from}
use Rattle.prologs.specs.declared.Prolog.{Prolog}
use Rattle.prologs.specs.declared.Prolog.TheVariants.{Read, Fault}
use Rattle.prologs.specs.declared.Tail.{Tail}
use Rattle.prologs.specs.declared.Tail.TheVariants.{Clean, Foul}
use Rattle.prologs.proofs.Pieces.{Bytes, NoBytes, yes_bytes, bytes_yes, no_bytes, bytes_no}
use Rattle.prologs.proofs.Exactly.{Tells, tells, told}

-- EF BB BF, the byte order mark
abbrev pub BOM : List ℕ
BOM = 239 ∷ 187 ∷ 191 ∷ []

-- the text begins at n: behind a byte order mark, or at once
pub data Start (d : List ℕ) : ℕ → Type 0 where
  marked : Bytes BOM d 0 3 → Start d 3
  plain : NoBytes BOM d 0 → Start d 0

starts : (d : List ℕ) → Start d (start_behind_mark d)
unfolding start_behind_mark
starts d = by (stands BOM d) refl where
  by : (x : Bool) → stands BOM d ≡ x → Start d (cond x 3 0)
  by true e = marked (yes_bytes BOM d 0 e)
  by false e = plain (no_bytes BOM d 0 e)

start_is : (d : List ℕ) {n : ℕ} → Start d n → start_behind_mark d ≡ n
unfolding start_behind_mark
start_is d (marked b) = rw (bytes_yes BOM d b)
start_is d (plain n) = rw (bytes_no BOM d 0 n)

-- ---- which file is XML
pub data Xml (d : List ℕ) : Type 0 where
  declared : {n m : ℕ} → Start d n → Bytes XML d n m → Xml d
  rooted : {n m : ℕ} → Start d n → Bytes SSS d n m → Xml d

-- XML: a file is XML exactly when it begins with <?xml or <sss, alone or behind a byte order mark
pub xml_exactly : (d : List ℕ) → (is_xml d ≡ true) ↔ Xml d
unfolding is_xml
xml_exactly d = (sound, complete) where
  sound : (stands XML (drop (start_behind_mark d) d) || stands SSS (drop (start_behind_mark d) d)) ≡ true → Xml d
  sound e =
      ⊎_elim (λ x. declared (starts d) (yes_bytes XML d (start_behind_mark d) x))
      (λ x. rooted (starts d) (yes_bytes SSS d (start_behind_mark d) x))
      (either_true (stands XML (drop (start_behind_mark d) d)) (stands SSS (drop (start_behind_mark d) d)) e)

  complete : Xml d → (stands XML (drop (start_behind_mark d) d) || stands SSS (drop (start_behind_mark d) d)) ≡ true
  complete (declared s b) = rw (start_is d s, bytes_yes XML d b)
  complete (rooted {n} s b) = rw (start_is d s, bytes_yes SSS d b) (or_true (stands XML (drop n d)))

-- ---- the declaration
-- where it is absent nothing is read, in UTF-8; else what its form tells, behind a byte order mark without ISO-8859-1
pub data Declared (d : List ℕ) : Prolog → Type 0 where
  absent : {n : ℕ} → Start d n → NoBytes XML d n → Declared d (Read false n)
  at_once : {m : ℕ} {r : Prolog} → NoBytes BOM d 0 → Bytes XML d 0 m → Tells false d 0 (declaration false) false 0 r → Declared d r
  behind : {m : ℕ} {r : Prolog} → Bytes BOM d 0 3 → Bytes XML d 3 m → Tells false d 3 (declaration true) false 3 r → Declared d r

declares : (d : List ℕ) → Declared d (declaration_of d)
unfolding declaration_of
declares d = on (starts d) where
  here : {n m : ℕ} → Start d n → Bytes XML d n m → Declared d (tell_of false d n (declaration (ltb 0 n)) false n)
  here (marked b) x = behind b x (tells false d 3 (declaration true) false 3)
  here (plain b) x = at_once b x (tells false d 0 (declaration false) false 0)

  on : {n : ℕ} → Start d n → Declared d (cond (stands XML (drop n d)) (tell_of false d n (declaration (ltb 0 n)) false n) (Read false n))
  on {n} s = by (stands XML (drop n d)) refl where
    by : (x : Bool) → stands XML (drop n d) ≡ x → Declared d (cond x (tell_of false d n (declaration (ltb 0 n)) false n) (Read false n))
    by true e = here s (yes_bytes XML d n e)
    by false e = absent s (no_bytes XML d n e)

declared_is : (d : List ℕ) {r : Prolog} → Declared d r → declaration_of d ≡ r
unfolding declaration_of
declared_is d (absent {n} s b) = rw (start_is d s, bytes_no XML d n b)
declared_is d (at_once n b t) = rw (start_is d (plain n), bytes_yes XML d b) (told false d 0 t)
declared_is d (behind m b t) = rw (start_is d (marked m), bytes_yes XML d b) (told false d 3 t)

-- DECLARATION: whatever is answered is answered exactly so; Tells says each piece, and the place of every 50
pub declaration_exactly : (d : List ℕ) (r : Prolog) → (declaration_of d ≡ r) ↔ Declared d r
declaration_exactly d r = (λ e. rw (← e) (declares d), declared_is d)

-- ---- before the root
pub data Headed (bad latin : Bool) (d : List ℕ) (p : ℕ) : Prolog → Type 0 where
  untyped : {n : ℕ} → Gapped d p n → NoBytes DOCTYPE d n → Headed bad latin d p (Read latin n)
  typed : {n m k e : ℕ} {l : Bool} → Gapped d p n → Bytes DOCTYPE d n m → Tells bad d n doctype latin n (Read l k) → Gapped d k e
      → Headed bad latin d p (Read l e)
  ill : {n m k q : ℕ} → Gapped d p n → Bytes DOCTYPE d n m → Tells bad d n doctype latin n (Fault k q) → Headed bad latin d p (Fault k q)
  comment : {q : ℕ} → gap_of bad d p ≡ Broken q → Headed bad latin d p (Fault 50 q)
  later : {n m k q : ℕ} {l : Bool} → Gapped d p n → Bytes DOCTYPE d n m → Tells bad d n doctype latin n (Read l k) → gap_of bad d k
      ≡ Broken q → Headed bad latin d p (Fault 50 q)

module _ (bad latin : Bool) (d : List ℕ) (p : ℕ) where
  gapped : (k n : ℕ) → gap_of bad d k ≡ Past n → Gapped d k n
  gapped k n e = (gap_exactly bad d k n).0 e

  heads : Headed bad latin d p (head_of bad latin d p)
  unfolding head_of gap_to
  heads = on (gap_of bad d p) refl where
    then : {n m k : ℕ} {l : Bool} → Gapped d p n → Bytes DOCTYPE d n m → Tells bad d n doctype latin n (Read l k) → (s : Skip)
        → gap_of bad d k ≡ s
        → Headed bad latin d p (on_passed s λ e. Read l e)
    then {k = k} g b t (Past e) f = typed g b t (gapped k e f)
    then g b t (Broken q) f = later g b t f

    of : {n m : ℕ} → Gapped d p n → Bytes DOCTYPE d n m → (r : Prolog) → Tells bad d n doctype latin n r
        → Headed bad latin d p (gap_on bad d r)
    of g b (Read l k) t = then g b t (gap_of bad d k) refl
    of g b (Fault k q) t = ill g b t

    by : {n : ℕ} → Gapped d p n → (x : Bool) → stands DOCTYPE (drop n d) ≡ x
        → Headed bad latin d p (cond x (gap_on bad d (tell_of bad d n doctype latin n)) (Read latin n))
    by {n} g true e = of g (yes_bytes DOCTYPE d n e) (tell_of bad d n doctype latin n) (tells bad d n doctype latin n)
    by {n} g false e = untyped g (no_bytes DOCTYPE d n e)

    on : (s : Skip) → gap_of bad d p ≡ s → Headed bad latin d p
        (on_passed s λ n. cond (stands DOCTYPE (drop n d)) (gap_on bad d (tell_of bad d n doctype latin n)) (Read latin n))
    on (Past n) e = by (gapped p n e) (stands DOCTYPE (drop n d)) refl
    on (Broken q) e = comment e

  headed_is : {r : Prolog} → Headed bad latin d p r → head_of bad latin d p ≡ r
  unfolding head_of gap_to
  headed_is (untyped {n} g b) = rw ((gap_exactly bad d p n).1 g, bytes_no DOCTYPE d n b)
  headed_is (typed {n} {m} {k} {e} g b t h) = rw (
    (gap_exactly bad d p n).1 g,
    bytes_yes DOCTYPE d b,
    told bad d n t,
    (gap_exactly bad d k e).1 h,
  )
  headed_is (ill {n} g b t) = rw ((gap_exactly bad d p n).1 g, bytes_yes DOCTYPE d b, told bad d n t)
  headed_is (comment e) = rw e
  headed_is (later {n} g b t e) = rw ((gap_exactly bad d p n).1 g, bytes_yes DOCTYPE d b, told bad d n t, e)

-- HEAD: from behind the declaration to where the root is due
pub head_exactly : (bad latin : Bool) (d : List ℕ) (p : ℕ) (r : Prolog) → (head_of bad latin d p ≡ r) ↔ Headed bad latin d p r
head_exactly bad latin d p r = (λ e. rw (← e) (heads bad latin d p), headed_is bad latin d p)

-- ---- behind the root: 60 63 is <?
pub data Tailed (bad : Bool) (d : List ℕ) (p : ℕ) : Tail → Type 0 where
  clean : {n : ℕ} → Gapped d p n → length d ≤ n → bad ≡ false → Tailed bad d p Clean
  cut : {n : ℕ} → Gapped d p n → length d ≤ n → bad ≡ true → Tailed bad d p (Foul 50 n)
  instruction : {n m : ℕ} → Gapped d p n → n < length d → Bytes (60 ∷ 63 ∷ []) d n m → Tailed bad d p (Foul 51 n)
  other : {n : ℕ} → Gapped d p n → n < length d → NoBytes (60 ∷ 63 ∷ []) d n → Tailed bad d p (Foul 50 n)
  broken : {q : ℕ} → gap_of bad d p ≡ Broken q → Tailed bad d p (Foul 50 q)

module _ (bad : Bool) (d : List ℕ) (p : ℕ) where
  ends : {n : ℕ} → Gapped d p n → length d ≤ n → (b : Bool) → bad ≡ b → Tailed bad d p (end_of_file b n)
  unfolding end_of_file
  ends g h true e = cut g h e
  ends g h false e = clean g h e

  tails : Tailed bad d p (tail_from bad d p)
  unfolding tail_from
  tails = on (gap_of bad d p) refl where
    by : {n : ℕ} → Gapped d p n → (x y : Bool) → leb (length d) n ≡ x → stands (60 ∷ 63 ∷ []) (drop n d) ≡ y
        → Tailed bad d p (cond x (end_of_file bad n) (cond y (Foul 51 n) (Foul 50 n)))
    by {n} g true y e f = ends g (leb-true (length d) n e) bad refl
    by {n} g false true e f = instruction g (leb-false (length d) n e) (yes_bytes (60 ∷ 63 ∷ []) d n f)
    by {n} g false false e f = other g (leb-false (length d) n e) (no_bytes (60 ∷ 63 ∷ []) d n f)

    on : (s : Skip) → gap_of bad d p ≡ s → Tailed bad d p (behind_root bad d s)
    on (Past n) e = by ((gap_exactly bad d p n).0 e) (leb (length d) n) (stands (60 ∷ 63 ∷ []) (drop n d)) refl refl
    on (Broken q) e = broken e

  tailed_is : {r : Tail} → Tailed bad d p r → tail_from bad d p ≡ r
  unfolding tail_from end_of_file
  tailed_is (clean {n} g h e) = rw ((gap_exactly bad d p n).1 g, le-leb (length d) n h, e)
  tailed_is (cut {n} g h e) = rw ((gap_exactly bad d p n).1 g, le-leb (length d) n h, e)
  tailed_is (instruction {n} g h b) = rw ((gap_exactly bad d p n).1 g, lt-leb (length d) n h, bytes_yes (60 ∷ 63 ∷ []) d b)
  tailed_is (other {n} g h b) = rw ((gap_exactly bad d p n).1 g, lt-leb (length d) n h, bytes_no (60 ∷ 63 ∷ []) d n b)
  tailed_is (broken e) = rw e

-- TAIL: behind the root white space and comments stand, or what else does is at fault
pub tail_exactly : (bad : Bool) (d : List ℕ) (p : ℕ) (r : Tail) → (tail_from bad d p ≡ r) ↔ Tailed bad d p r
tail_exactly bad d p r = (λ e. rw (← e) (tails bad d p), tailed_is bad d p)
