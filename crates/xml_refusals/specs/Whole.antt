-- THE WHOLE: a definition in XML is refused exactly where a derivation of it stops, with that number and at that place; or by its length,
-- its declaration, its names, or a lent table that is too short.
use Rattle.std.specs.Prelude.{◌≡◌, ◌↔◌, Bool, List, ◌∷◌, get_or}
use Rattle.std.proofs.Math.Path.{refl, sym}
use Rattle.std.proofs.Common.{◌∙◌, arith}
use Rattle.std.proofs.Math.Bool.{true, false, cond}
use Prim.Native.Nat.{ℕ, ◌<◌, ◌≤◌}
use Rattle.std.proofs.Math.Dec.{ltb}
use Rattle.std.proofs.Math.ListN.{length, take}
use Rattle.std.proofs.Math.Seq.{take_all}
use borrow.Author.Tests.{eq-eqb, lt-leb, le-ltb, lt-ltb, ltb-true, ltb-false}
use Rattle.utf.specs.rule.Cut.{first_bad}
use Rattle.pairs.specs.rule.Stand.{stand_at}
use Rattle.pairs.proofs.Lies.{Lies, lies_first, lies_named}
use Rattle.prologs.specs.declared.Prolog.{Prolog}
use Rattle.prologs.specs.declared.Prolog.TheVariants as prolog
use Rattle.prologs.specs.declared.Tail.{Tail}
use Rattle.prologs.specs.declared.Tail.TheVariants as tail
use Rattle.prologs.specs.rule.Told.{declaration_of, head_of, tail_from}
use Rattle.prologs.proofs.Whole.{Declared, declaration_exactly, Headed, head_exactly, Tailed, tail_exactly}
use Rattle.tokens.specs.declared.Fault.{Fault}
use Rattle.tokens.specs.rule.Gap.{fault}
use Rattle.reading.specs.rule.Result.{Result, Is, Not, Reader, bind}
use Rattle.reading.specs.rule.Least.{Charge}
use Rattle.bridge.specs.Lowest.{never}
use Rattle.grammar.specs.Faults.{Clean}
use Rattle.names.specs.rule.Standard.{name_fault}
use Rattle.xml_reading.specs.rule.Word.{SSS}
use Rattle.xml_reading.specs.rule.Sheet.{XmlSurvey, headed, root, cleared, sheet}
use Rattle.xml_reading.specs.rule.Whole.{Built, Refusal, xml_table, xml_fitting, xml_names, entry_place, judge_xml_names, xml_settled}
use Rattle.xml_reading.specs.rule.Whole.{sheet_of}
use Rattle.xml_reading.specs.rule.Whole.{declared, xml_outcome}
use Rattle.xml_grammar.specs.Grammar.{Sss}
use Rattle.xml_grammar.specs.Reader.{element}
use Rattle.xml_grammar.specs.Meaning.{State, meanings}
use Rattle.xml_grammar.specs.Whole.{depth, last}
use Rattle.xml_grammar.proofs.Whole.{sheet_is}
use Rattle.xml_derivations.specs.Derivation.{the}
use Rattle.xml_derivations.specs.Document.{unsaid, survey_of, Definition, definition, Named}
use Rattle.xml_derivation_laws.specs.Read.{Told, element_read}
use Rattle.xml_derivation_laws.specs.Derived.{derived_read}
use Rattle.xml_derivation_laws.specs.Whole.{RootRead, root_read, root_there, Derivation, sheet_derived, derived_sheet, all_legal, legal_all}
use Rattle.xml_refusals.specs.Opens.{Opens, opens_start}
use Rattle.xml_refusals.specs.Roots.{NoRoot, no_root_exactly}
use Rattle.xml_refusals.specs.Stops.{Stops}
use Rattle.xml_refusals.specs.Halts.{stops_refused}
use Rattle.xml_refusals.specs.Seen.{Fails, before, behind, fails, element_seen}

-- ---- from behind the declaration, at n: in the DOCTYPE or a comment; where the root is due; in the root; behind it
pub data SheetStops (bad latin : Bool) (d : List ℕ) (n : ℕ) : Fault → Type 0 where
  in_head : {k q : ℕ} → Headed bad latin d n (prolog.Fault k q) → SheetStops bad latin d n (fault k q)
  no_root : {l : Bool} {k : ℕ} {f : Fault} → Headed bad latin d n (prolog.Read l k) → NoRoot bad d k f
      → SheetStops bad latin d n f
  in_root : {l : Bool} {k : ℕ} {f : Fault} → Headed bad latin d n (prolog.Read l k) → Stops bad d (the Sss) (unsaid latin) k f
      → SheetStops bad latin d n f
  behind_root : {l : Bool} {k m j q : ℕ} {t : State} → Headed bad latin d n (prolog.Read l k) → Told d (the Sss) (unsaid latin) k t m
      → Tailed bad d m (tail.Foul j q) → SheetStops bad latin d n (fault j q)

moved : {bad latin : Bool} {d : List ℕ} {n : ℕ} {f g : Fault} → f ≡ g → SheetStops bad latin d n f → SheetStops bad latin d n g
moved e y = rw (← e) y

module _ (bad latin : Bool) (d : List ℕ) where
  -- ---- the root
  root_opens : {n p e : ℕ} {l : Bool} → Headed bad latin d n (prolog.Read l p) → Opens d p e → Lies d p e (60 ∷ SSS)
      → root bad d latin n ≡ Is p e
  unfolding root stand_at
  root_opens {n} {p} {e} {l} h o a =
      rw (
        (head_exactly bad latin d n (prolog.Read l p)).1 h,
        lt-leb (length d) p o.inside,
        eq-eqb (get_or d p 0) 60 o.less,
        opens_start bad d o,
        lies_named (lies_first a).rest,
      )

  root_seen : (n : ℕ) {f : Fault} → root bad d latin n ≡ Not f → SheetStops bad latin d n f
  unfolding root
  root_seen n {f} e = on (head_of bad latin d n) refl e where
    on : (y : Prolog) → head_of bad latin d n ≡ y → headed bad d y ≡ Not f → SheetStops bad latin d n f
    on (prolog.Read l k) g e = no_root ((head_exactly bad latin d n (prolog.Read l k)).0 g) ((no_root_exactly bad d k f).0 e)
    on (prolog.Fault a b) g e =
        let i : fault a b ≡ f = cc in moved i (in_head ((head_exactly bad latin d n (prolog.Fault a b)).0 g))

  tail_seen : (n m : ℕ) (t : State) {l : Bool} {k : ℕ} {f : Fault} → Headed bad latin d n (prolog.Read l k)
      → Told d (the Sss) (unsaid latin) k t m → last bad d t m ≡ Not f → SheetStops bad latin d n f
  tail_seen n m t {f = f} h y e = on (tail_from bad d m) refl e where
    on : (z : Tail) → tail_from bad d m ≡ z → bind (cleared bad d z m) (λ u n. Is (survey_of t) n) ≡ Not f → SheetStops bad latin d n f
    on tail.Clean g e = never cc
    on (tail.Foul a b) g e =
        let i : fault a b ≡ f = cc in moved i (behind_root h y ((tail_exactly bad d m (tail.Foul a b)).0 g))

  abbrev behind_name : ℕ → Reader XmlSurvey
  behind_name p n = bind (element bad d (meanings d) (depth bad d) Sss (unsaid latin) p n) (last bad d)

  sheet_seen : (n : ℕ) {f : Fault} → sheet bad d latin n ≡ Not f → SheetStops bad latin d n f
  sheet_seen n {f} e = on (fails (root bad d latin n) behind_name f (sym (sheet_is bad d latin n) ∙ e)) where
    inside : (p k : ℕ) → RootRead bad latin d n p k
        → Fails (element bad d (meanings d) (depth bad d) Sss (unsaid latin) p k) (last bad d) f → SheetStops bad latin d n f
    inside p k r (before a) =
        let b = lies_first r.name in
        let o : Opens d p k = record { inside = b.inside; less = b.byte; name = r.whole_name } in
        in_root r.head (element_seen bad d (depth bad d) Sss (unsaid latin) p k f (omega arith) o r.name a)
    inside p k r (behind t j a c) =
        tail_seen n j t r.head (element_read bad d (depth bad d) Sss (unsaid latin) p k t j r.name a) c

    on : Fails (root bad d latin n) behind_name f → SheetStops bad latin d n f
    on (before a) = root_seen n a
    on (behind p k a c) =
        inside p k (root_read bad latin d a) (fails (element bad d (meanings d) (depth bad d) Sss (unsaid latin) p k) (last bad d) f c)

  sheet_halted : (n : ℕ) {f : Fault} → SheetStops bad latin d n f → sheet bad d latin n ≡ Not f
  unfolding root
  sheet_halted n (in_head {k} {q} h) = sheet_is bad d latin n ∙ rw ((head_exactly bad latin d n (prolog.Fault k q)).1 h)
  sheet_halted n (no_root {l} {k} {f} h e) =
      sheet_is bad d latin n ∙ rw ((head_exactly bad latin d n (prolog.Read l k)).1 h, (no_root_exactly bad d k f).1 e)
  sheet_halted n (in_root h y) =
      let r = stops_refused bad d y in
      sheet_is bad d latin n ∙ rw (root_opens h r.opens r.name, r.refused (depth bad d) (omega arith))
  sheet_halted n (behind_root {m = m} {j = j} {q = q} h y z) =
      let r = derived_read bad d y.says y.clean in
      sheet_is bad d latin n
      ∙ rw (
        root_there bad latin d h r.name r.edge,
        r.reads (depth bad d) (omega arith),
        (tail_exactly bad d m (tail.Foul j q)).1 z,
      )

  -- SHEET: what stands behind the declaration is refused with f exactly where a derivation of it stops with f
  pub sheet_refused_exactly : (n : ℕ) (f : Fault) → (sheet bad d latin n ≡ Not f) ↔ SheetStops bad latin d n f
  sheet_refused_exactly n f = (sheet_seen n, sheet_halted n)

-- ---- the file, with a lent table of n numbers: "1 is first of all"; the declaration; where its derivation stops, up to the first
-- character that is not legal; "with standardnames, 9 at the text's place, and 10"
pub data Refused (d : List ℕ) (n : ℕ) : ℕ → ℕ → Type 0 where
  too_long : 1048576 < length d → Refused d n 1 0
  undeclared : {k q : ℕ} → length d ≤ 1048576 → Declared d (prolog.Fault k q) → Refused d n k q
  stopped : {latin : Bool} {p q : ℕ} {f : Fault} → length d ≤ 1048576 → Declared d (prolog.Read latin p) → first_bad latin d p ≡ q
      → SheetStops (ltb q (length d)) latin (take q d) p f → Refused d n f.number f.place
  ill_named : {latin : Bool} {c : List Charge} {s : XmlSurvey} → Definition d latin c s → Clean c → s.manner.standard ≡ true
      → name_fault (xml_names latin d s.entries) < length s.entries
      → Refused d n 9 (entry_place s.entries (name_fault (xml_names latin d s.entries)))
  too_short : {latin : Bool} {c : List Charge} {s : XmlSurvey} → Definition d latin c s → Clean c → Named d latin s
      → n < length (xml_table s.entries) → Refused d n 10 0

module _ (d : List ℕ) (n : ℕ) where
  renumbered : {a b k q : ℕ} → Refusal a b ≡ Refusal k q → Refused d n a b → Refused d n k q
  renumbered {a} {b} {k} {q} e y =
      let i : a ≡ k = cc in
      let j : b ≡ q = cc in
      rw (← i, ← j) y

  -- ---- what was derived with nothing charged: its names, and the lent table
  module _ (latin : Bool) {c : List Charge} {s : XmlSurvey} (y : Definition d latin c s) (o : Clean c) {k q : ℕ} where
    short_seen : Named d latin s → xml_fitting n s.entries ≡ Refusal k q → Refused d n k q
    unfolding xml_fitting
    short_seen m e = by (ltb n (length (xml_table s.entries))) refl e where
      by : (b : Bool) → ltb n (length (xml_table s.entries)) ≡ b → cond b (Refusal 10 0) (Built s.entries) ≡ Refusal k q
          → Refused d n k q
      by true h e = renumbered e (too_short y o m (ltb-true n (length (xml_table s.entries)) h))
      by false h e = never cc

    names_seen : (b : Bool) → s.manner.standard ≡ b → judge_xml_names latin d n b s.entries ≡ Refusal k q → Refused d n k q
    unfolding judge_xml_names
    names_seen false z e = short_seen (λ h. let i : true ≡ false = sym h ∙ z in never cc) e
    names_seen true z e = by (ltb i (length s.entries)) refl e where
      i : ℕ
      i = name_fault (xml_names latin d s.entries)

      by : (b : Bool) → ltb i (length s.entries) ≡ b → cond b (Refusal 9 (entry_place s.entries i)) (xml_fitting n s.entries)
          ≡ Refusal k q
          → Refused d n k q
      by true h e = renumbered e (ill_named y o z (ltb-true i (length s.entries) h))
      by false h e = short_seen (λ v. ltb-false i (length s.entries) h) e

  settles : (latin : Bool) {c : List Charge} {s : XmlSurvey} → Definition d latin c s → Clean c
      → xml_outcome d n ≡ judge_xml_names latin d n s.manner.standard s.entries
  unfolding xml_outcome sheet_of
  settles latin (definition {n = p} h g c x) o =
      let q = legal_all latin d p c in
      let w : take (first_bad latin d p) d ≡ d = take_all (first_bad latin d p) d q in
      rw (
        le-ltb 1048576 (length d) h,
        (declaration_exactly d (prolog.Read latin p)).1 g,
        le-ltb (first_bad latin d p) (length d) q,
        w,
        derived_sheet latin x o,
      )

  sheet_of_lem : (latin : Bool) (p : ℕ) {k q : ℕ} → length d ≤ 1048576 → Declared d (prolog.Read latin p) → sheet_of latin d p n
      ≡ Refusal k q
      → Refused d n k q
  unfolding sheet_of
  sheet_of_lem latin p {k} {q} h g e = on (sheet (ltb z (length d)) (take z d) latin p) refl e where
    z : ℕ
    z = first_bad latin d p

    on : (r : Result XmlSurvey) → sheet (ltb z (length d)) (take z d) latin p ≡ r → xml_settled latin (take z d) n r ≡ Refusal k q
        → Refused d n k q
    on (Is s m) f e =
        let y = sheet_derived (ltb z (length d)) latin (take z d) p s m f in
        let o = ltb-false z (length d) y.0 in
        let w : take z d ≡ d = take_all z d o in
        let x : Derivation latin d p s m = rw w at y.1 in
        let c = all_legal latin d p o in
        names_seen latin (definition h g c.1 x.derived) x.clean s.manner.standard refl (rw w at e)
    on (Not v) f e =
        renumbered e (stopped h g refl ((sheet_refused_exactly (ltb z (length d)) latin (take z d) p v).0 f))

  refused_of : {k q : ℕ} → xml_outcome d n ≡ Refusal k q → Refused d n k q
  unfolding xml_outcome
  refused_of {k} {q} e = by (ltb 1048576 (length d)) refl e where
    on : (y : Prolog) → declaration_of d ≡ y → length d ≤ 1048576 → declared d n y ≡ Refusal k q → Refused d n k q
    on (prolog.Read latin p) g h e = sheet_of_lem latin p h ((declaration_exactly d (prolog.Read latin p)).0 g) e
    on (prolog.Fault a b) g h e = renumbered e (undeclared h ((declaration_exactly d (prolog.Fault a b)).0 g))

    by : (b : Bool) → ltb 1048576 (length d) ≡ b → cond b (Refusal 1 0) (declared d n (declaration_of d)) ≡ Refusal k q → Refused d n k q
    by true h e = renumbered e (too_long (ltb-true 1048576 (length d) h))
    by false h e = on (declaration_of d) refl (ltb-false 1048576 (length d) h) e

  of_refused : {k q : ℕ} → Refused d n k q → xml_outcome d n ≡ Refusal k q
  unfolding xml_outcome sheet_of judge_xml_names xml_fitting
  of_refused (too_long h) = rw (lt-ltb 1048576 (length d) h)
  of_refused (undeclared {k} {q} h g) = rw (le-ltb 1048576 (length d) h, (declaration_exactly d (prolog.Fault k q)).1 g)
  of_refused (stopped {latin} {p} {q} {f} h g z y) =
      rw (
        le-ltb 1048576 (length d) h,
        (declaration_exactly d (prolog.Read latin p)).1 g,
        z,
        (sheet_refused_exactly (ltb q (length d)) latin (take q d) p f).1 y,
      )
  of_refused (ill_named {latin} {s = s} y o z h) =
      settles latin y o ∙ rw (z, lt-ltb (name_fault (xml_names latin d s.entries)) (length s.entries) h)
  of_refused (too_short {latin} {s = s} y o m h) = settles latin y o ∙ by s.manner.standard refl where
    i : ℕ
    i = name_fault (xml_names latin d s.entries)

    by : (b : Bool) → s.manner.standard ≡ b → judge_xml_names latin d n b s.entries ≡ Refusal 10 0
    by false z = rw (lt-ltb n (length (xml_table s.entries)) h)
    by true z = rw (le-ltb i (length s.entries) (m z), lt-ltb n (length (xml_table s.entries)) h)

  -- THE FILE: a definition in XML is refused with number k at place q exactly so
  pub refused_exactly : (k q : ℕ) → (xml_outcome d n ≡ Refusal k q) ↔ Refused d n k q
  refused_exactly k q = (refused_of, of_refused)
