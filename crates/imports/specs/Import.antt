-- What follows from rule/Import.antt, and what the code keeps.
use Rattle.std.specs.Prelude.{◌≡◌, refl, Bool, List, ◌++◌, ℕ, ◌+◌, ◌*◌, ◌/◌, ◌≤◌, ◌<◌, ℤ, drop}
use Rattle.std.proofs.Common.{sym, ◌∙◌, le-div_iff_mul-le, arith}
use Rattle.std.proofs.Math.Bool.{true, false}
use borrow.Author.Tests.{ne_eqb, le-leb, lt-leb}
use Rattle.std.proofs.Math.Dec.{leb}
use Rattle.std.proofs.Math.ListN.{length}
use Rattle.std.proofs.Math.Logic.{⊎_elim}
use Rattle.below.specs.Below.{lt_or_le}
use Rattle.layout.specs.rule.Layout.{header_of}
use Rattle.layout.specs.declared.Header.{Header}
use Rattle.sound.specs.rule.Sound.{well_formed}
use Rattle.sound.specs.rule.Rows.{rows_of, length_of}
use Rattle.sound.specs.Rows.{length_low}
use Rattle.sharing.specs.rule.Sharing.{shares_none}
use Rattle.sharing.specs.Known.{TableKnown, table_known}
use Rattle.kinds.specs.rule.Against.{yields}
use Rattle.csv_fields.specs.rule.Page.{start, fresh, page, Lines, broken, page_lines}
use Rattle.name_line.specs.rule.Names.{name_line}
use Rattle.import_rule.specs.rule.Text.{TextSays, refuses, lines_say, names_then, names_say, text_says, file_bytes, data_of}
use Rattle.import_names.specs.Names.{SameNames, OtherNames, NamesTaken}
use Rattle.import_names.specs.declared.NamesEnd.{NamesEnd}
use Rattle.import_names.specs.declared.NamesEnd.TheVariants.{Same, Differs, Torn}
use Rattle.import_passes.specs.Passes.{Accepted, JudgedAs}
use Rattle.import_passes.specs.Build.{lines_sized}
use Rattle.import_passes.specs.declared.Judged.{Judged}
use Rattle.import_passes.specs.declared.Judged.TheVariants as judged
use Rattle.imports.specs.rule.Import.{ImportVerdict, refused, written, roomed, import_says, import_verdict, import_after, Imported}

-- what a text says, in the room of an output
pub record Roomed (says : TextSays) (out out' : List ℕ) (v : ImportVerdict) : Type 0 where
  pub verdict : v ≡ roomed says (length out)
  pub leaves : out' ≡ import_after (roomed says (length out)) (data_of says) out

pub roomed_refused : {says : TextSays} (out : List ℕ) {k n c : ℕ} → says ≡ refuses k n c → Roomed says out out (refused k n c)
unfolding roomed import_after
roomed_refused out e = record { verdict = rw e; leaves = rw e }

module _ {says : TextSays} {n m : ℕ} (a : Accepted says n) (s : length (file_bytes a.records) ≡ n * m) (p : 1 ≤ m) (out : List ℕ) where
  pub roomed_short : length out / m < n → Roomed says out out (refused 60 0 0)
  unfolding roomed import_after
  roomed_short h =
      let x : leb (length (file_bytes a.records)) (length out) ≡ false =
      ⊎_elim (λ y. lt-leb (length (file_bytes a.records)) (length out) y)
      (λ y. absurd (omega (arith, h, (le-div_iff_mul-le {k = m} {x = n} {y = length out} p).1 (rw s at y))))
      (lt_or_le (length out) (length (file_bytes a.records))) in
      record { verdict = rw (a.is, x); leaves = rw (a.is, x) }

  pub roomed_fits : n ≤ length out / m → n * m ≤ length out
  roomed_fits h = (le-div_iff_mul-le {k = m} {x = n} {y = length out} p).0 h

  pub roomed_written : n ≤ length out / m → {out' : List ℕ} → out' ≡ data_of says ++ drop (length (data_of says)) out
      → Roomed says out out' (written n (n * m))
  unfolding roomed import_after
  roomed_written h {out'} e =
      let x : leb (length (file_bytes a.records)) (length out)
      ≡ true = le-leb (length (file_bytes a.records)) (length out) (rw s (roomed_fits h)) in
      record { verdict = rw (a.is, x, a.count, s); leaves = rw (a.is, x) (rw a.is at e) }

pub roomed_as : {says says' : TextSays} {out out' : List ℕ} {v : ImportVerdict} → says ≡ says' → Roomed says' out out' v
    → Roomed says out out' v
roomed_as e k = rw e k

-- the records of lines that are accepted, so many, have L bytes each, and CR LF
pub accepted_sized : (t : List ℤ) (ls : Lines) {n len : ℕ} (a : Accepted (lines_say t 2 ls) n) → len ≡ length_of t
    → length (file_bytes a.records) ≡ n * (len + 2)
accepted_sized t ls a e = rw (e, ← a.count) (lines_sized t 2 ls a.is)

-- the case that was met
pub judged_refused : (says : TextSays) (r : Judged) {k l c : ℕ} → JudgedAs says r → r ≡ judged.Refused k l c → says ≡ refuses k l c
judged_refused says r k e = rw e at k

pub judged_done : (says : TextSays) (r : Judged) {n : ℕ} → JudgedAs says r → r ≡ judged.Done n → Accepted says n
judged_done says r k e = rw e at k

pub names_good : (names : List (List ℕ)) (d : List ℕ) (r : NamesEnd) {next : ℕ} → NamesTaken names d r → r ≡ Same next
    → SameNames names d next
names_good names d r k e = rw e at k

pub names_bad : (names : List (List ℕ)) (d : List ℕ) (r : NamesEnd) {c : ℕ} → NamesTaken names d r → r ≡ Differs c → OtherNames names d c
names_bad names d r k e = rw e at k

pub names_broken : (names : List (List ℕ)) (d : List ℕ) (r : NamesEnd) {c : ℕ} → NamesTaken names d r → r ≡ Torn c
    → page_lines (page fresh d)
    ≡ broken c
names_broken names d r k e = rw e at k

-- ---- the name line
module _ (t : List ℤ) (names : List (List ℕ)) (d : List ℕ) where
  pub names_same : {next : ℕ} → SameNames names d next → text_says t names d ≡ lines_say t 2 (page_lines (page start (drop next d)))
  unfolding text_says names_say names_then
  names_same k = rw (k.reads, k.same)

  pub names_other : {c : ℕ} → OtherNames names d c → text_says t names d ≡ refuses 62 1 c
  unfolding text_says names_say names_then
  names_other {c} k = rw (k.reads, k.differs, ne_eqb c 0 (λ e. omega (arith, k.some)))

  pub names_torn : {c : ℕ} → page_lines (page fresh d) ≡ broken c → text_says t names d ≡ refuses 61 1 c
  unfolding text_says names_say
  names_torn e = rw e

-- of a table's rows, of which there are so many
module _ (def : List ℕ) (t : List ℤ) (d : List ℕ) {rows : ℕ} (e : rows ≡ rows_of t) where
  as_due : import_says def t d ≡ text_says t (name_line def t rows) d
  unfolding import_says
  as_due = rw e

  pub import_same : {next : ℕ} → SameNames (name_line def t rows) d next → import_says def t d
      ≡ lines_say t 2 (page_lines (page start (drop next d)))
  import_same k = as_due ∙ names_same t (name_line def t rows) d k

  pub import_other : {c : ℕ} → OtherNames (name_line def t rows) d c → import_says def t d ≡ refuses 62 1 c
  import_other k = as_due ∙ names_other t (name_line def t rows) d k

  pub import_torn : {c : ℕ} → page_lines (page fresh d) ≡ broken c → import_says def t d ≡ refuses 61 1 c
  import_torn k = as_due ∙ names_torn t (name_line def t rows) d k

-- ---- the call
module _ (t : List ℤ) (good : well_formed t ≡ true) (h : Header) (head : h ≡ header_of t) where
  pub known : (TableKnown t h.rows h.length × (h.rows ≡ rows_of t) × (h.length ≡ length_of t)) × (h.length ≤ 16384)
  known = rw head ((table_known t good, refl, refl), length_low t good)

  pub shared_said : {b c : Bool} → b ≡ shares_none t h.rows → b ≡ c → shares_none t (rows_of t) ≡ c
  shared_said {b} x y = let e : b ≡ shares_none t (rows_of t) = rw head at x in sym e ∙ y

module _ (def : List ℕ) (t : List ℤ) (s out : List ℕ) where
  pub bad_table_lem : well_formed t ≡ false → Imported def t s out out (refused 20 0 0)
  unfolding import_verdict import_after
  bad_table_lem e = record { says = rw e; leaves = rw e }

  pub other_table : well_formed t ≡ true → yields def t ≡ false → Imported def t s out out (refused 40 0 0)
  unfolding import_verdict import_after
  other_table e f = record { says = rw (e, f); leaves = rw (e, f) }

  pub shared_place : well_formed t ≡ true → yields def t ≡ true → shares_none t (rows_of t) ≡ false
      → Imported def t s out out (refused 90 0 0)
  unfolding import_verdict import_after
  shared_place e f g = record { says = rw (e, f, g); leaves = rw (e, f, g) }

  pub as_said : well_formed t ≡ true → yields def t ≡ true → shares_none t (rows_of t) ≡ true → {out' : List ℕ} {v : ImportVerdict}
      → Roomed (import_says def t s) out out' v → Imported def t s out out' v
  unfolding import_verdict
  as_said e f g k = record { says = rw (e, f, g) k.verdict; leaves = rw (e, f, g) k.leaves }
