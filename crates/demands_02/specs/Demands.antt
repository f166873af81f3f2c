-- FURTHER FINAL THEOREMS of document 02's requests, each restated with its name in the crate that proves it. Demands.antt of crate
-- `demands` has the public calls' own; here stand the grammars beside the state machines, both ways, and what uses and filters mean.
use Rattle.std.specs.Prelude.{◌≡◌, ◌↔◌, Bool, true, false, List, [], ◌∷◌, ◌++◌, ℕ, suc, ◌≤◌, ℤ, length, drop}
use Rattle.signs.specs.declared.Sign.{Sign}
use Rattle.utf.specs.rule.Chars.{Cut}
use Rattle.utf.specs.rule.Cut.{first_bad}
use Rattle.utf.proofs.Exactly as utf
use Rattle.spans.specs.rule.Heard.{Says, All, heard}
use Rattle.spans.proofs.Hearing as hearing
use Rattle.contents.specs.rule.Grammar.{ContentText}
use Rattle.contents.specs.rule.Content.{begun, signs_from, content_signs, start_of, is_text}
use Rattle.contents.proofs.Exactly as contents
use Rattle.stretches.specs.rule.Stretch.{StretchDecoded}
use Rattle.stretches.proofs.Outcomes as stretches
use Rattle.texts.specs.rule.Decode.{TextDecoded}
use Rattle.texts.specs.declared.Decoded.{Decoded}
use Rattle.scripts.specs.rule.Script.{latin_of}
use Rattle.prologs.specs.rule.Told.{is_xml}
use Rattle.decoding.specs.rule.Both.{BothDecoded}
use Rattle.decoding.specs.Both as both
use Rattle.ranks.specs.declared.Found.{Found}
use Rattle.ranks.specs.rule.Rank.{lowest_of, Lowest}
use Rattle.ranks.proofs.Lowest as ranks
use Rattle.reading.specs.rule.Result.{Is}
use Rattle.survey.specs.rule.Survey as survey
use Rattle.uses.specs.rule.Uses.{uses_good}
use Rattle.xml_reading.specs.rule.Role.{XmlEntry, filter_of}
use Rattle.xml_reading.specs.rule.Variable.{Manner}
use Rattle.xml_reading.specs.rule.Sheet.{variables}
use Rattle.xml_reading.specs.rule.Whole.{xml_table}
use Rattle.filters.specs.rule.Kept.{Filters, Joins, Kept}
use Rattle.filters.proofs.Filtering as filtering
use Rattle.filters.proofs.Keeping as keeping
use Rattle.filters.proofs.Joining as joining
use Rattle.definition.specs.rule.Against as sss
use Rattle.definition.specs.declared.Answer.TheVariants as definition
use Rattle.survey.specs.rule.Table as survey-table
use Rattle.blind_laws.specs.rule.Blind.{Alike}
use Rattle.kinds.specs.rule.Definition.{DefinitionRead}
use Rattle.kinds.specs.rule.Against.{yields}
use Rattle.kind_laws.specs.rule.Meet.{Meet}
use Rattle.kind_laws.specs.Meet as kind-meet
use Rattle.kind_laws.specs.Numbers as kind-numbers
use Rattle.kinds.proofs.Plain as plain
use Rattle.csv_fields.specs.rule.Page.{page, start, page_lines}
use Rattle.csv_laws.specs.rule.Grammar.{all_of, IsText}
use Rattle.csv_laws.specs.Sound as csv

-- ---- C-15: characters, what a stretch says, texts
-- from p on the characters are legal up to q, and none stands there
pub characters_cut : (l : Bool) (d : List ℕ) (p q : ℕ) → p ≤ length d → (first_bad l d p ≡ q) ↔ Cut l d p q
characters_cut = utf.utf_exactly

-- references and comments in a stretch
pub stretch_said : (s cs : List ℕ) → (heard s 0 ≡ All cs) ↔ Says s cs
stretch_said = hearing.heard_exactly

-- a text is derived, by its bytes, and the decoder says what the derivation says
pub text_derived : (l : Bool) (d : List ℕ) (at : ℕ) → at ≤ length d → is_text l d at ≡ true
    → (cs : List Sign) × ContentText l 2 at (drop at d) cs 0 × (signs_from l d (begun at) ≡ cs)
text_derived l d at h e = let t = (contents.text_exactly l d at h).0 e in (t.signs, t.text, contents.text_says l d at h t)

-- the decoder begins with all the signs of a text
pub decoder_begins : (l : Bool) (d : List ℕ) (at : ℕ) → content_signs l d (start_of at) ≡ signs_from l d (begun at)
decoder_begins = stretches.start_signs

-- the call that decodes promises of each kind of definition what its own decoder does
module _ {d : List ℕ} {place long : ℕ} {list list' : List ℤ} {r : Decoded} where
  pub decoded_plain : is_xml d ≡ false → BothDecoded d place long list list' r → TextDecoded d place long list list' r
  decoded_plain = both.plain_both d place long

  pub decoded_xml : is_xml d ≡ true → BothDecoded d place long list list' r → StretchDecoded (latin_of d) d place long list list' r
  decoded_xml = both.xml_both d place long

-- a statement's faults: the lowest number, of equal ones the first place
pub fault_ranked : (s : List Found) (f : Found) → (f.number ≡ 0 → ⊥) → (lowest_of s ≡ f) ↔ Lowest s f
fault_ranked = ranks.ranked_lowest

-- ---- C-15: uses and filters
pub filter_meant : (latin standard : Bool) (d : List ℕ) (earlier : List XmlEntry) (name : survey.KeptText) (usage : ℕ) (t : survey.KeptText)
    (i : ℕ)
    → (filter_of latin standard d earlier name usage t ≡ suc i) ↔ Filters latin standard d earlier name usage t i
filter_meant = filtering.filter_means

pub uses_kept : (bad : Bool) (d : List ℕ) (m : Manner) (n : ℕ) {s : List XmlEntry} {i : ℕ} → variables bad d m n ≡ Is s i → Kept s
uses_kept = joining.variables_kept

pub kept_joined : (latin standard : Bool) (d : List ℕ) (l : List XmlEntry) (w : XmlEntry) → Kept l → Joins latin standard d l w
    → Kept (l ++ w ∷ [])
kept_joined = keeping.kept_more

pub kept_good : (l : List XmlEntry) → Kept l → uses_good (xml_table l) (length l) ≡ true
kept_good = keeping.uses_good_lem

-- ---- C-15: both kinds
-- 3 never for a definition in XML, 50 to 52 never for one of 1.1
pub xml_never_three : {d : List ℕ} {t t' : List ℤ} {k p : ℕ} → DefinitionRead d t t' (definition.Refused k p) → is_xml d ≡ true → k ≡ 3 → ⊥
xml_never_three = kind-numbers.three_never_in_xml

pub sss_never_fifty : {d : List ℕ} {t t' : List ℤ} {k p : ℕ} → DefinitionRead d t t' (definition.Refused k p) → is_xml d ≡ false → (1 ≤ k)
    × (k ≤ 10)
sss_never_fifty = kind-numbers.fifty_never_in_sss

-- a definition in XML and one of 1.1 that say the same have tables that differ only where no record rule looks
pub kinds_meet : {l : List XmlEntry} {m : List survey.Variable} → Meet l m → Alike (xml_table l) (survey-table.table_of m)
kinds_meet = kind-meet.roads_meet

-- a table and a definition that is not XML: as 1.1 has it
pub yields_plain : (d : List ℕ) → is_xml d ≡ false → (t : List ℤ) → yields d t ≡ sss.sss_yields d t
yields_plain = plain.plain_yields

-- ---- C-23: comma-separated text
pub text_lines : (s : List ℕ) (ls : List (List (List ℕ))) → (page_lines (page start s) ≡ all_of ls) ↔ IsText ls s
text_lines = csv.text_exactly
