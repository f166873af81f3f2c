-- THE ROUND TRIP AS TWO CALLS: the text that an export left in its buffer is lent to an import. It is refused for want of room alone, and
-- what is built reads as the file that was exported.
-- Assumes nothing.
use Rattle.std.specs.Prelude.{◌≡◌, true, false, List, ℕ, ℤ, length, take}
use Rattle.std.proofs.Common.{sym, ◌∙◌, arith}
use Rattle.std.proofs.Math.Path.{ap}
use Rattle.files.specs.rule.File.{FileVerdict, sound_with, file_verdict}
use Rattle.kinds.specs.rule.Against.{yields}
use Rattle.exports.specs.rule.Text.{export_text, ExportVerdict}
use Rattle.exports.specs.rule.Text as export
use Rattle.exports.specs.rule.Export.{Exported}
use Rattle.export_laws.specs.rule.Exactly as exporting
use Rattle.export_laws.specs.Exactly.{export_named, export_stands}
use Rattle.import_rule.specs.rule.Text.{accepts, refuses, file_bytes, data_of}
use Rattle.imports.specs.rule.Import.{ImportVerdict, refused, written, import_says, Imported}
use Rattle.import_laws.specs.rule.Exactly.{ImportOutcome, bad_table_lem, other_table, shared_place, refused_text, short_room, all_built}
use Rattle.import_laws.specs.rule.Trip.{Table, Returned, CameBack}
use Rattle.import_laws.specs.Exactly.{import_named, import_stands}
use Rattle.import_laws.specs.Trip.{import_export}

module _
    {def : List ℕ}
    {t : List ℤ}
    {d out out' : List ℕ}
    {n m : ℕ}
    {v : FileVerdict}
    (table : Table t)
    (sound : file_verdict t d ≡ sound_with n)
    (exported : Exported def t d out out' (export.written v m))
  where
    -- what the export told: its text's length; and the definition yields the table
    told : (length (export_text def t d) ≡ m) × (yields def t ≡ true)
    told = go (export_named def t d (length out)) exported.says
      where
        go : {w : ExportVerdict} → exporting.ExportOutcome def t d (length out) w → export.written v m ≡ w
            → (length (export_text def t d) ≡ m) × (yields def t ≡ true)
        go (exporting.bad_table_lem p) e = let z : ◌≡◌ {A = ℕ} 0 1 = cc in absurd (omega arith)
        go (exporting.other_table p q) e = let z : ◌≡◌ {A = ℕ} 0 1 = cc in absurd (omega arith)
        go (exporting.short_room p q l) e = let z : ◌≡◌ {A = ℕ} 0 1 = cc in absurd (omega arith)
        go (exporting.all_written p q l) e = (cc, q)

    lent : take m out' ≡ export_text def t d
    lent = ap (λ (k : ℕ). take k out') (sym told.0) ∙ export_stands exported

    trip : Returned def t d
    trip = import_export def d table sound

    says : import_says def t (take m out') ≡ accepts trip.imported.records
    says = ap (import_says def t) lent ∙ trip.imported.is

    module _ {back back' : List ℕ} where
      pub came_back : {k l : ℕ} → Imported def t (take m out') back back' (written k l) → CameBack t d back' k l
      unfolding data_of
      came_back {k} {l} i = go (import_named def t (take m out') (length back)) i.says
        where
          stand : data_of (import_says def t (take m out')) ≡ file_bytes trip.imported.records
          stand = ap data_of says

          go : {w : ImportVerdict} → ImportOutcome def t (take m out') (length back) w → written k l ≡ w → CameBack t d back' k l
          go (bad_table_lem p) e = let z : ◌≡◌ {A = ℕ} 0 1 = cc in absurd (omega arith)
          go (other_table p q) e = let z : ◌≡◌ {A = ℕ} 0 1 = cc in absurd (omega arith)
          go (shared_place p q r) e = let z : ◌≡◌ {A = ℕ} 0 1 = cc in absurd (omega arith)
          go (refused_text p q r x) e = let z : ◌≡◌ {A = ℕ} 0 1 = cc in absurd (omega arith)
          go (short_room p q r x y) e = let z : ◌≡◌ {A = ℕ} 0 1 = cc in absurd (omega arith)
          go (all_built {rs = rs} p q r x y) e =
              let both : accepts rs ≡ accepts trip.imported.records = sym x ∙ says in
              let same : rs ≡ trip.imported.records = cc in
              let count : k ≡ length rs = cc in
              let long : l ≡ length (file_bytes rs) = cc in
              record {
                originals = trip.originals;
                are = trip.are;
                records = trip.imported.records;
                reads = trip.imported.reads;
                counted = count ∙ ap length same;
                stand = ap (λ (j : ℕ). take j back') (long ∙ ap length (ap file_bytes same ∙ sym stand)) ∙ import_stands i ∙ stand;
              }

      pub room_alone : {k a b : ℕ} → Imported def t (take m out') back back' (refused k a b) → k ≡ 60
      room_alone {k} {a} {b} i = go (import_named def t (take m out') (length back)) i.says
        where
          go : {w : ImportVerdict} → ImportOutcome def t (take m out') (length back) w → refused k a b ≡ w → k ≡ 60
          go (bad_table_lem p) e = let z : true ≡ false = sym table.formed ∙ p in let y : ◌≡◌ {A = ℕ} 0 1 = cc in absurd (omega arith)
          go (other_table p q) e = let z : true ≡ false = sym told.1 ∙ q in let y : ◌≡◌ {A = ℕ} 0 1 = cc in absurd (omega arith)
          go (shared_place p q r) e = let z : true ≡ false = sym table.unshared ∙ r in let y : ◌≡◌ {A = ℕ} 0 1 = cc in
              absurd (omega arith)
          go (refused_text {k = j} {n = i₁} {c = c} p q r x) e =
              let z : accepts trip.imported.records ≡ refuses j i₁ c = sym says ∙ x in
              let y : ◌≡◌ {A = ℕ} 0 1 = cc in absurd (omega arith)
          go (short_room p q r x y) e = cc
          go (all_built p q r x y) e = let z : ◌≡◌ {A = ℕ} 0 1 = cc in absurd (omega arith)
