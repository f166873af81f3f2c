-- EVERY TEXT OF A TABLE THAT WAS READ FROM XML DECODES: `zarfolin_decode_text` answers its signs, or 25 where the list is too short, never
-- 3.
use Rattle.std.specs.Prelude.{◌≡◌, refl, Bool, true, false, ℕ, ◌+◌, ◌≤◌, ℤ, length, take, drop}
use Rattle.utf.specs.rule.Chars.{Chars}
use Rattle.reading.specs.rule.Least.{Charge}
use Rattle.xml_reading.specs.rule.Sheet.{XmlSurvey}
use Rattle.std.proofs.Common.{◌∙◌, arith, length-take-le, le-leb}
use mathlib.Core.List.Memᴰ
use mathlib.Core.List.{List, Memᴰ}
use Rattle.contents.proofs.Exactly.{text_exactly, text_says}
use Rattle.texts.specs.declared.Decoded.{Decoded}
use Rattle.texts.specs.rule.Decode.{decode_said, decode_fitting}
use Rattle.stretches.specs.rule.Stretch.{stretch_text, stretch_signs, stretch_as}
use Rattle.prologs.specs.declared.Prolog.TheVariants as prolog
use Rattle.prologs.specs.rule.Told.{is_xml}
use Rattle.prologs.specs.rule.Form.{Form}
use Rattle.prologs.proofs.Exactly.{Tells}
use Rattle.prologs.proofs.Exactly as told
use Rattle.prologs.proofs.Strings.{quotes_past}
use Rattle.prologs.proofs.Whole.{declaration_exactly, Headed}
use Rattle.prologs.proofs.Whole as prologs
use Rattle.scripts.specs.rule.Script.{latin_of}
use Rattle.decoding.specs.rule.Both.{BothDecoded}
use Rattle.decoding.specs.Both.{xml_both}
use Rattle.survey.specs.rule.Survey.{KeptText, Line}
use Rattle.survey.specs.rule.Table.{lines_of}
use Rattle.xml_reading.specs.rule.Role.{XmlEntry}
use Rattle.xml_reading.specs.rule.Whole.{Built, xml_outcome}
use Rattle.xml_derivations.specs.Document.{Document, document, definition, Taken, taken}
use Rattle.xml_derivation_laws.specs.Whole.{taken_exactly}
use Rattle.xml_text_laws.specs.Texts.{Stands, EntryStands, no_text_lem, derived_good}

-- the call decodes the text q of the definition d: whatever the list, its answer is that of the text's signs, and 3 is none
pub record Decodes (d : List ℕ) (q : KeptText) : Type 0 where
  pub stands : Stands (latin_of d) d q
  pub answers : {list list' : List ℤ} {r : Decoded} → BothDecoded d q.place q.length list list' r
      → decode_said r ≡ decode_fitting (length list) stands.text.signs

decodes_of : (d : List ℕ) (q : KeptText) → is_xml d ≡ true → Stands (latin_of d) d q → Decodes d q
unfolding stretch_as stretch_text stretch_signs
decodes_of d q x s = record { stands = s; answers = λ {list} p. (xml_both d q.place q.length x p).says ∙ decoded (length list) } where
  long : length (take (q.place + q.length) d) ≡ q.place + q.length
  long = length-take-le (q.place + q.length) d s.within

  there : q.place ≤ length (take (q.place + q.length) d)
  there = omega (arith, long)

  decoded : (n : ℕ) → stretch_as (latin_of d) d q.place q.length n ≡ decode_fitting n s.text.signs
  decoded n =
      rw (
        le-leb (q.place + q.length) (length d) s.within,
        (text_exactly (latin_of d) (take (q.place + q.length) d) q.place there).1 s.text,
        text_says (latin_of d) (take (q.place + q.length) d) q.place there s.text,
      )

-- name, label and the texts of its lines
pub record EntryDecodes (d : List ℕ) (v : XmlEntry) : Type 0 where
  pub name : Decodes d v.variable.name
  pub label : Decodes d v.variable.label
  pub lines : (y : Line) → Memᴰ y (lines_of v.variable) → Decodes d y.text

entry_decodes : (d : List ℕ) (v : XmlEntry) → is_xml d ≡ true → EntryStands (latin_of d) d v → EntryDecodes d v
entry_decodes d v x s = record {
  name = decodes_of d v.variable.name x s.name;
  label = decodes_of d v.variable.label x s.label;
  lines = λ y m. decodes_of d y.text x (s.lines y m);
}

-- ---- the root stands behind the declaration
ahead : {bad : Bool} {d : List ℕ} {o : ℕ} {f : Form} {l m : Bool} {p n : ℕ} → Tells bad d o f l p (prolog.Read m n) → p ≤ n
ahead told.over = omega arith
ahead (told.white_on b i t) = omega (arith, ahead t)
ahead (told.room_on b t) = let k = b.stretch.place in omega (arith, ahead t)
ahead (told.word_on_lem b t) = let k = b.place in omega (arith, ahead t)
ahead {bad} {d} {o} {p = p} (told.value_on_lem q a t) = omega (arith, ahead t, (quotes_past true false bad d o p q).0)
ahead {bad} {d} {o} {p = p} (told.utf_on q a t) = omega (arith, ahead t, (quotes_past true false bad d o p q).0)
ahead {bad} {d} {o} {p = p} (told.latin_on q a t) = omega (arith, ahead t, (quotes_past true false bad d o p q).0)
ahead {bad} {d} {o} {p = p} (told.literal_on {public = public} q t) = omega (arith, ahead t, (quotes_past false public bad d o p q).0)
ahead (told.root_on b t) = let k = b.place in omega (arith, ahead t)
ahead (told.bracket_on n t) = ahead t
ahead (told.perhaps_on b i s t) = let k = s.place in omega (arith, ahead t)
ahead (told.perhaps_not i t) = ahead t
ahead (told.which_on b t) = let k = b.place in omega (arith, ahead t)
ahead (told.which_not n t) = ahead t

root_behind : {bad latin l : Bool} {d : List ℕ} {n k : ℕ} → Headed bad latin d n (prolog.Read l k) → n ≤ k
root_behind (prologs.untyped g b) = let p = g.place in omega arith
root_behind (prologs.typed g b t h) =
    let p = g.place in
    let q = h.place in
    omega (arith, ahead t)

-- a document that is derived
document_stands : {latin : Bool} {d : List ℕ} {p : ℕ} {cs : List ℕ} {g : List Charge} {s : XmlSurvey} {q : ℕ} → Chars latin cs (drop p d)
    → Document latin d p g s q → (v : XmlEntry) → Memᴰ v s.entries → EntryStands latin d v
document_stands {latin} {d} {p} c (document a y z) v m =
    (derived_good latin d p c y (root_behind a) (record {
      script = refl;
      entries = λ v m. absurd (Memᴰ.not-nil m);
      name = no_text_lem latin d p c;
      label = no_text_lem latin d p c;
      lines = λ y m. absurd (Memᴰ.not-nil m);
    })).0.entries v m

-- a definition that is taken
taken_stands : {d : List ℕ} {n : ℕ} {l : List XmlEntry} → Taken d n l → (v : XmlEntry) → Memᴰ v l → EntryStands (latin_of d) d v
unfolding latin_of
taken_stands {d} (taken {latin = latin} (definition {n = p} h g c f) o names long) v m =
    let e = (declaration_exactly d (prolog.Read latin p)).1 g in
    rw e (document_stands c f v m)

-- every text of every variable that was read
pub texts_decode : (d : List ℕ) (n : ℕ) (l : List XmlEntry) → is_xml d ≡ true → xml_outcome d n ≡ Built l → (v : XmlEntry) → Memᴰ v l
    → EntryDecodes d v
texts_decode d n l x e v m = entry_decodes d v x (taken_stands ((taken_exactly d n l).0 e) v m)
