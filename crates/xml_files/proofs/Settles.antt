-- Behind the root's end tag: the names judged are those of the rows that the room holds; and what may be asked of these.
use mathlib.Core.Path.{◌≡◌, refl, ◌∙◌, sym, ap}
use mathlib.Core.Bool.{Bool, true, false}
use mathlib.Core.List.{List, [], ◌∷◌, ◌++◌}
use Prim.Native.Nat.{ℕ, zero, suc, ◌+◌, ◌*◌, ◌≤◌, ◌<◌}
use native.Mathlib.Omega.{arith}
use lib.IntN.{ℤ}
use lib.ListN.{length, length-append}
use borrow.Author.Tests.{lt-ltb, le-ltb}
use Rattle.layout.specs.rule.Layout.{row_size, most_rows}
use Rattle.survey.specs.rule.Survey.{KeptText}
use Rattle.bridge.specs.Lowest.{never}
use Rattle.xml_reading.specs.rule.Role.{XmlEntry}
use Rattle.xml_reading.specs.rule.Whole.{Refusal, xml_fitting, entry_place, judge_xml_names}
use Rattle.laying.specs.declared.Tally.{Tally}
use Rattle.laying.specs.declared.Rooms.TheVariants as rooms
use Rattle.filters.specs.Code.{column_in, Lying, RowsOf, NamesSaid}
use Rattle.filters.specs.rule.Kept.{At, here, there, name_of}
use Rattle.filters.proofs.Rooms.{row_reads, next_row}
use Rattle.filters.proofs.Keeping.{Split, old, new, at_none, at_split}
use Rattle.filters.proofs.Storing.{NamesLie, lie_none, lie_more}
use Rattle.xml_bridge.specs.Table.{FineEntries, nothing, more, FineEntry, Filters, unfiltered, filtered, entries_few}
use Rattle.xml_laws.specs.Sheets.{Named, none_named, more_named}
use Rattle.xml_files.specs.Code.{NamesSettled}

-- ---- what may be asked of the rows
named_lie : {d : List ℕ} {l : List XmlEntry} → Named d l → NamesLie (length d) l
named_lie {d} none_named = lie_none (length d)
named_lie {d} (more_named {l} v n h) = lie_more (length d) l v (named_lie n) h

filter_few : {l : List XmlEntry} {v : XmlEntry} → Filters l v → v.filter ≤ length l
filter_few (unfiltered e) = omega arith
filter_few {l} (filtered p s w u e f k) = omega (arith, ap length e, length-append p (w ∷ s))

filters_few : {l : List XmlEntry} → FineEntries l → (i : ℕ) (v : XmlEntry) → At l i v → v.filter ≤ length l
filters_few nothing i v a = absurd (at_none a refl)
filters_few (more {l} {v = w} g f) i v a = by (λ j x b. filters_few g j x b) i v (at_split l w a) where
  by : ((i : ℕ) (v : XmlEntry) → At l i v → v.filter ≤ length l) → (i : ℕ) (v : XmlEntry) → Split l w i v → v.filter
      ≤ length (l ++ w ∷ [])
  by ih i v (old a) = omega (arith, ih i v a, length-append l (w ∷ []))
  by ih i v (new e) = omega (arith, filter_few f.filters, length-append l (w ∷ []))

pub lying_here : (d : List ℕ) (rows : List ℤ) (count : ℕ) (l : List XmlEntry) → length rows ≡ row_size * most_rows → RowsOf rows count l
    → FineEntries l → Named d l
    → Lying (length d) rows count
lying_here d rows count l wide h g n = record {
  room = wide;
  few = omega (arith, h.counted, (entries_few g).0);
  names = λ i k.
      let c = h.counted in
      let z = next_row l i (omega arith) in
      let e = (row_reads h z.at).name in
      omega (arith, ap (λ (t : KeptText). t.place) e, ap (λ (t : KeptText). t.length) e, (named_lie n).lie i z.row z.at);
  filters = λ i k.
      let c = h.counted in
      let z = next_row l i (omega arith) in
      omega (arith, (row_reads h z.at).filter, filters_few g i z.row z.at);
}

-- ---- the place of name i
place_at : {l : List XmlEntry} {i : ℕ} {v : XmlEntry} → At l i v → entry_place l i ≡ (name_of v).place
unfolding entry_place
place_at here = refl
place_at (there a) = place_at a

place_here : {rows : List ℤ} {count : ℕ} {l : List XmlEntry} → RowsOf rows count l → (i : ℕ) → i < count → entry_place l i
    ≡ column_in rows i 14
place_here {l = l} h i k =
    let c = h.counted in
    let z = next_row l i (omega arith) in
    place_at z.at ∙ sym (ap (λ (t : KeptText). t.place) (row_reads h z.at).name)

-- ---- 9
module _ (latin : Bool) (d : List ℕ) (y : Tally) (rows : List ℤ) where
  held_same : (z : Tally) → rooms.Held y ≡ rooms.Held z → z ≡ y
  held_same z e = cc

  pub plain_settled : NamesSettled latin d false y rows (rooms.Held y)
  unfolding judge_xml_names
  plain_settled = record { passes = λ {z} e l h. (held_same z e, λ n. refl); fails = λ e l h n. never cc }

  module _ (r : ℕ) (j : NamesSaid latin d rows y.rows r) where
    good_outcome : (l : List XmlEntry) → RowsOf rows y.rows l → y.rows ≤ r → (n : ℕ) → judge_xml_names latin d n true l ≡ xml_fitting n l
    unfolding judge_xml_names
    good_outcome l h k n = rw (← (j.is l h), le-ltb r (length l) (omega (arith, h.counted)))

    bad_outcome : (l : List XmlEntry) → RowsOf rows y.rows l → r < y.rows → (n : ℕ) → judge_xml_names latin d n true l
        ≡ Refusal 9 (column_in rows r 14)
    unfolding judge_xml_names
    bad_outcome l h k n = rw (← (j.is l h), lt-ltb r (length l) (omega (arith, h.counted))) (ap (Refusal 9) (place_here h r k))

    pub good_settled : y.rows ≤ r → NamesSettled latin d true y rows (rooms.Held y)
    good_settled k = record { passes = λ {z} e l h. (held_same z e, λ n. good_outcome l h k n); fails = λ e l h n. never cc }

    pub bad_settled : (p : ℕ) → r < y.rows → p ≡ column_in rows r 14 → NamesSettled latin d true y rows (rooms.Refused 9 p)
    bad_settled p k e = record {
      passes = λ i l h. never cc;
      fails = λ {k = u} {p = v} i l h n.
          let a : 9 ≡ u = cc in
          let b : p ≡ v = cc in
          bad_outcome l h k n ∙ rw (sym e ∙ b, a);
    }
