-- THE WHOLE: a definition in XML is read as a survey exactly when its file is derived as that survey and nothing is charged; and it is
-- taken
-- exactly when besides its names are good, where that is asked, and the lent table is long enough.
use Rattle.std.specs.Prelude.{◌≡◌, ◌↔◌, Bool, List, [], ◌∷◌, ◌++◌, drop, get_or}
use Rattle.std.proofs.Math.Path.{refl, sym}
use Rattle.std.proofs.Common.{◌∙◌, append-nil, arith, length-drop, drop_of_length-le, ⊎_elim}
use Rattle.std.proofs.Math.Bool.{true, false, cond}
use Prim.Native.Nat.{ℕ, ◌+◌, ◌<◌, ◌≤◌}
use Rattle.std.proofs.Math.Dec.{ltb}
use Rattle.std.proofs.Math.ListN.{length, take}
use Rattle.std.proofs.Math.Seq.{take_all}
use borrow.Author.Tests.{eq-eqb, lt-leb, le-ltb, ltb-false}
use Rattle.below.specs.Below.{lt_or_le}
use Rattle.utf.specs.rule.Chars.{Chars, Spelt, NoneAt}
use Rattle.utf.specs.rule.Chars as chars
use Rattle.utf.specs.rule.Cut.{first_bad}
use Rattle.utf.proofs.Exactly.{utf_exactly}
use Rattle.utf.proofs.Strides.{bad_end}
use Rattle.markup.specs.declared.Skip.{Skip}
use Rattle.markup.specs.declared.Skip.TheVariants as skip
use Rattle.markup.specs.rule.Grammar as markup
use Rattle.markup.proofs.Gaps.{NoGap, gap_exactly}
use Rattle.tags.specs.declared.Tag.{Tag}
use Rattle.tags.specs.declared.Tag.TheVariants as tag
use Rattle.tags.specs.rule.Tag.{is_named}
use Rattle.pairs.specs.declared.Stand.{Stand}
use Rattle.pairs.specs.declared.Stand.TheVariants as stand
use Rattle.pairs.specs.rule.Stand.{stand_at, stand_of, bare_of, shut_of}
use Rattle.pairs.proofs.Lies.{Lies, lies_first, lies_join, lies_byte, lies_named, named_lies}
use Rattle.pairs.proofs.Stands.{NameAt, stand_start, angle_start, name_long}
use Rattle.pairs.proofs.Ends.{Edge, start_complete}
use Rattle.prologs.specs.declared.Prolog.{Prolog}
use Rattle.prologs.specs.declared.Prolog.TheVariants as prolog
use Rattle.prologs.specs.declared.Tail.{Tail}
use Rattle.prologs.specs.declared.Tail.TheVariants as tail
use Rattle.prologs.specs.rule.Told.{declaration_of, head_of, tail_from}
use Rattle.prologs.proofs.Whole.{Declared, declaration_exactly, Headed, head_exactly, Tailed, tail_exactly}
use Rattle.prologs.proofs.Whole as prologs
use Rattle.reading.specs.rule.Result.{Result, Is, Not, Reader, bind}
use Rattle.reading.specs.rule.Least.{Charge}
use Rattle.bridge.specs.Lowest.{never}
use Rattle.xml_laws.specs.Reads.{Bound, bound}
use Rattle.grammar.specs.Faults.{Clean}
use Rattle.names.specs.rule.Standard.{name_fault}
use Rattle.xml_reading.specs.rule.Word.{SSS}
use Rattle.xml_reading.specs.rule.Open.{on_bare, misplaced}
use Rattle.xml_reading.specs.rule.Role.{XmlEntry}
use Rattle.xml_reading.specs.rule.Sheet.{XmlSurvey, no_root, rooted, headed, root, cleared, sheet}
use Rattle.xml_reading.specs.rule.Whole.{Built, Refusal, xml_table, xml_fitting, xml_names, entry_place, judge_xml_names, xml_settled}
use Rattle.xml_reading.specs.rule.Whole.{sheet_of}
use Rattle.xml_reading.specs.rule.Whole.{declared, xml_outcome}
use Rattle.xml_grammar.specs.Grammar.{Sss}
use Rattle.xml_grammar.specs.Reader.{element}
use Rattle.xml_grammar.specs.Meaning.{State, meanings}
use Rattle.xml_grammar.specs.Whole.{depth, last}
use Rattle.xml_grammar.proofs.Whole.{sheet_is}
use Rattle.xml_derivations.specs.Derivation.{the, Says}
use Rattle.xml_derivations.specs.Document.{unsaid, survey_of, Document, document, definition, Taken, taken}
use Rattle.xml_derivation_laws.specs.Table.{word_name}
use Rattle.xml_derivation_laws.specs.Read.{Told, element_read}
use Rattle.xml_derivation_laws.specs.Derived.{derived_read}

-- ---- the root
module _ (bad latin : Bool) (d : List ℕ) where
  -- neither white space nor a comment stands where the root is due
  head_over : {n k : ℕ} {l : Bool} → Headed bad latin d n (prolog.Read l k) → NoGap (drop k d)
  head_over (prologs.untyped g b) = g.over
  head_over (prologs.typed g b t h) = h.over

  pub record RootRead (n p e : ℕ) : Type 0 where
    pub encoding : Bool
    pub head : Headed bad latin d n (prolog.Read encoding p)
    pub name : Lies d p e (60 ∷ SSS)
    pub whole_name : NameAt d (p + 1) e

  stand_at_lem : (k : ℕ) → NoGap (drop k d) → stand_of bad d k ≡ stand_at bad d k
  unfolding stand_of
  stand_at_lem k o =
      rw ((gap_exactly bad d k k).1 (record { bytes = []; gap = markup.none; split = refl; place = omega arith; over = o }))

  pub root_read : {n p e : ℕ} → root bad d latin n ≡ Is p e → RootRead n p e
  unfolding root
  root_read {n} {p} {e} f = on (head_of bad latin d n) refl f where
    named : (l : Bool) (k q j : ℕ) (b : Bool) → Headed bad latin d n (prolog.Read l k) → stand_at bad d k ≡ stand.Start q j
        → is_named d (q + 1) j SSS ≡ b → cond b (Is q j) (misplaced bad d q j) ≡ Is p e → RootRead n p e
    named l k q j true h g i f =
        let s = stand_start bad d k q j (stand_at_lem k (head_over h) ∙ g) in
        let m = (gap_exactly bad d k q).0 s.gap in
        let o = (gap_exactly bad d k k).1 (record {
          bytes = [];
          gap = markup.none;
          split = refl;
          place = omega arith;
          over = head_over h;
        }) in
        let same : skip.Past q ≡ skip.Past k = sym s.gap ∙ o in
        let a : k ≡ p = cc in
        let a' : q ≡ p = cc in
        let b : j ≡ e = cc in
        let z = (name_long (angle_start bad d q j s.opens)).0 in
        record {
          encoding = l;
          head = rw (← a) h;
          name = rw (← a', ← b)
              (lies_join (lies_byte d q (q + 1) 60 s.inside s.less refl) (named_lies d (q + 1) j SSS (omega arith) i));
          whole_name = rw (← a', ← b) (angle_start bad d q j s.opens);
        }
    named l k q j false h g i f = bare (bare_of bad d q j) f where
      bare : (y : Tag) → on_bare bad d {A = ℕ} q y ≡ Is p e → RootRead n p e
      bare (tag.Read a b c m) f = never cc
      bare (tag.Fault a b) f = never cc

    closing : (y : Skip) → no_root bad d y ≡ Is p e → RootRead n p e
    closing (skip.Past m) f = never cc
    closing (skip.Broken m) f = never cc

    stands : (l : Bool) (k : ℕ) → Headed bad latin d n (prolog.Read l k) → (y : Stand) → stand_at bad d k ≡ y → rooted bad d y ≡ Is p e
        → RootRead n p e
    stands l k h (stand.Start q j) g f = named l k q j (is_named d (q + 1) j SSS) h g refl f
    stands l k h (stand.Close q j) g f = closing (shut_of bad d q j []) f
    stands l k h (stand.Foreign q) g f = never cc
    stands l k h (stand.Text q) g f = never cc
    stands l k h (stand.Broken q) g f = never cc

    on : (y : Prolog) → head_of bad latin d n ≡ y → headed bad d y ≡ Is p e → RootRead n p e
    on (prolog.Read l k) g f =
        let h = (head_exactly bad latin d n (prolog.Read l k)).0 g in stands l k h (stand_at bad d k) refl f
    on (prolog.Fault a b) g f = never cc

  pub root_there : {n p e : ℕ} {l : Bool} → Headed bad latin d n (prolog.Read l p) → Lies d p e (60 ∷ SSS) → Edge d e
      → root bad d latin n ≡ Is p e
  unfolding root stand_at
  root_there {n} {p} {e} {l} h n' i =
      let b = lies_first n' in
      rw (
        (head_exactly bad latin d n (prolog.Read l p)).1 h,
        lt-leb (length d) p b.inside,
        eq-eqb (get_or d p 0) 60 b.byte,
        start_complete bad d p (word_name Sss) n' i,
        lies_named b.rest,
      )

-- ---- the sheet: from behind the declaration on
pub record Derivation (latin : Bool) (d : List ℕ) (n : ℕ) (s : XmlSurvey) (m : ℕ) : Type 0 where
  pub charges : List Charge
  pub derived : Document latin d n charges s m
  pub clean : Clean charges

moved : {latin : Bool} {d : List ℕ} {n j m : ℕ} {t s : XmlSurvey} → t ≡ s → j ≡ m → Derivation latin d n t j → Derivation latin d n s m
moved e f y = rw (← e, ← f) y

tail_read : (bad : Bool) (d : List ℕ) (n : ℕ) (y : Tail) {u : Unit {0}} {k : ℕ} → tail_from bad d n ≡ y → cleared bad d y n ≡ Is u k
    → Tailed bad d n tail.Clean × (n ≡ k)
tail_read bad d n tail.Clean g f = ((tail_exactly bad d n tail.Clean).0 g, cc)
tail_read bad d n (tail.Foul a b) g f = never cc

clean_tail : {bad : Bool} {d : List ℕ} {n : ℕ} → Tailed bad d n tail.Clean → bad ≡ false
clean_tail (prologs.clean g h e) = e

-- a file with a character that isn't legal never has a good end
documented : (bad latin : Bool) {d : List ℕ} {n k m : ℕ} {l : Bool} {c : List Charge} {t : State} → Headed bad latin d n (prolog.Read l k)
    → Says d (the Sss) (unsaid latin) k c t m → Tailed bad d m tail.Clean → Document latin d n c (survey_of t) m
documented true latin h y z = let e = clean_tail z in never cc
documented false latin h y z = document h y z

module _ (bad latin : Bool) (d : List ℕ) (n : ℕ) (s : XmlSurvey) (m : ℕ) where
  -- behind the root's end tag, at j
  behind_root : {p e j : ℕ} {t : State} → RootRead bad latin d n p e → element bad d (meanings d) (depth bad d) Sss (unsaid latin) p e
      ≡ Is t j
      → last bad d t j ≡ Is s m → (bad ≡ false) × Derivation latin d n s m
  behind_root {p} {e} {j} {t} r f g = on (bound (cleared bad d (tail_from bad d j) j) (λ u n. Is (survey_of t) n) s m g) where
    y : Told d (the Sss) (unsaid latin) p t j
    y = element_read bad d (depth bad d) Sss (unsaid latin) p e t j r.name f

    on : Bound (cleared bad d (tail_from bad d j) j) (λ u n. Is (survey_of t) n) s m → (bad ≡ false) × Derivation latin d n s m
    on b =
        let z = tail_read bad d j (tail_from bad d j) {k = b.place} refl b.first_is in
        let o = b.then_is in
        let i = z.1 in
        let a : survey_of t ≡ s = cc in
        let k : j ≡ m = cc in (
          clean_tail z.0,
          moved a k (record { charges = y.charges; derived = documented bad latin r.head y.says z.0; clean = y.clean }),
        )

  pub sheet_derived : sheet bad d latin n ≡ Is s m → (bad ≡ false) × Derivation latin d n s m
  sheet_derived e = on (bound (root bad d latin n) behind s m (sym (sheet_is bad d latin n) ∙ e)) where
    behind : ℕ → Reader XmlSurvey
    behind p n = bind (element bad d (meanings d) (depth bad d) Sss (unsaid latin) p n) (last bad d)

    on : Bound (root bad d latin n) behind s m → (bad ≡ false) × Derivation latin d n s m
    on a =
        let b = bound (element bad d (meanings d) (depth bad d) Sss (unsaid latin) a.value a.place) (last bad d) s m a.then_is in
        behind_root (root_read bad latin d a.first_is) b.first_is b.then_is

pub derived_sheet : (latin : Bool) {d : List ℕ} {n m : ℕ} {s : XmlSurvey} {c : List Charge} → Document latin d n c s m → Clean c
    → sheet false d latin n ≡ Is s m
derived_sheet latin {d} {n} (document {l = l} {k = k} {m = m} {t = t} h y z) c =
    let r = derived_read false d y c in
    sheet_is false d latin n
    ∙ rw (root_there false latin d h r.name r.edge, r.reads (depth false d) (omega arith), (tail_exactly false d m tail.Clean).1 z)

-- SHEET: what stands behind the declaration is read as s, up to m, exactly when it is derived so and nothing in it is charged
pub sheet_exactly : (latin : Bool) (d : List ℕ) (n m : ℕ) (s : XmlSurvey) → (sheet false d latin n ≡ Is s m) ↔ Derivation latin d n s m
sheet_exactly latin d n m s = (λ e. (sheet_derived false latin d n s m e).1, λ y. derived_sheet latin y.derived y.clean)

-- ---- characters
pub all_legal : (l : Bool) (d : List ℕ) (n : ℕ) → length d ≤ first_bad l d n → (cs : List ℕ) × Chars l cs (drop n d)
all_legal l d n h = ⊎_elim beyond here (lt_or_le (length d) n) where
  beyond : length d < n → (cs : List ℕ) × Chars l cs (drop n d)
  beyond i = let o : length d ≤ n = omega arith in ([], rw (drop_of_length-le d o) chars.none)

  here : n ≤ length d → (cs : List ℕ) × Chars l cs (drop n d)
  here i =
      let c = (utf_exactly l d n (first_bad l d n) i).0 refl in
      let e : drop n d ≡ c.bytes = c.split ∙ rw (drop_of_length-le d h) (append-nil c.bytes) in
      (c.chars, rw e c.legals)

none_behind : (l : Bool) → NoneAt l []
none_behind l c u t e w f = by w f where
  by : {l : Bool} {c : ℕ} {u : List ℕ} → Spelt l c u → [] ≡ u ++ t → ⊥
  by (chars.latin h) f = never cc
  by (chars.one h) f = never cc
  by (chars.two e h k m) f = never cc
  by (chars.three e h k i m) f = never cc
  by (chars.four e h k i j m) f = never cc

pub legal_end : (l : Bool) (d : List ℕ) (n : ℕ) {cs : List ℕ} → n ≤ length d → Chars l cs (drop n d) → first_bad l d n ≡ length d
legal_end l d n {cs} i c =
    (utf_exactly l d n (length d) i).1
    (record {
      chars = cs;
      bytes = drop n d;
      legals = c;
      split = rw over (sym (append-nil (drop n d)));
      place = omega (arith, length-drop n d);
      over = rw over (none_behind l);
    }) where
      over : drop (length d) d ≡ []
      over = let o : length d ≤ length d = omega arith in drop_of_length-le d o

pub legal_all : (l : Bool) (d : List ℕ) (n : ℕ) {cs : List ℕ} → Chars l cs (drop n d) → length d ≤ first_bad l d n
legal_all l d n c =
    ⊎_elim (λ i. omega (arith, bad_end l d n (omega arith))) (λ i. omega (arith, legal_end l d n i c)) (lt_or_le (length d) n)

-- ---- names, and a table long enough
record Kept (d : List ℕ) (latin standard : Bool) (l : List XmlEntry) (n : ℕ) : Type 0 where
  pub names : standard ≡ true → length l ≤ name_fault (xml_names latin d l)
  pub long : length (xml_table l) ≤ n

module _ (d : List ℕ) (latin : Bool) (n : ℕ) (l : List XmlEntry) where
  fitting_built : {k : List XmlEntry} → xml_fitting n l ≡ Built k → (length (xml_table l) ≤ n) × (l ≡ k)
  unfolding xml_fitting
  fitting_built {k} e = by (ltb n (length (xml_table l))) refl e where
    by : (b : Bool) → ltb n (length (xml_table l)) ≡ b → cond b (Refusal 10 0) (Built l) ≡ Built k → (length (xml_table l) ≤ n) × (l ≡ k)
    by true h e = never cc
    by false h e = (ltb-false n (length (xml_table l)) h, cc)

  names_built : (standard : Bool) {k : List XmlEntry} → judge_xml_names latin d n standard l ≡ Built k → Kept d latin standard l n × (l ≡ k)
  unfolding judge_xml_names
  names_built false e = let f = fitting_built e in (record { names = λ h. never cc; long = f.0 }, f.1)
  names_built true {k} e = by (ltb (name_fault (xml_names latin d l)) (length l)) refl e where
    by : (b : Bool) → ltb (name_fault (xml_names latin d l)) (length l) ≡ b
        → cond b (Refusal 9 (entry_place l (name_fault (xml_names latin d l)))) (xml_fitting n l) ≡ Built k → Kept d latin true l n
        × (l ≡ k)
    by true h e = never cc
    by false h e =
        let f = fitting_built e in
        (record { names = λ o. ltb-false (name_fault (xml_names latin d l)) (length l) h; long = f.0 }, f.1)

  names_there : (standard : Bool) → Kept d latin standard l n → judge_xml_names latin d n standard l ≡ Built l
  unfolding judge_xml_names xml_fitting
  names_there false k = rw (le-ltb n (length (xml_table l)) k.long)
  names_there true k =
      rw (le-ltb (name_fault (xml_names latin d l)) (length l) (k.names refl), le-ltb n (length (xml_table l)) k.long)

-- ---- the outcome
module _ (d : List ℕ) (n : ℕ) where
  -- what is read behind the declaration, at p
  sheet_taken : (latin : Bool) (p : ℕ) {k : List XmlEntry} → length d ≤ 1048576 → Declared d (prolog.Read latin p) → sheet_of latin d p n
      ≡ Built k
      → Taken d n k
  unfolding sheet_of
  sheet_taken latin p {k} h g e = on (sheet (ltb q (length d)) (take q d) latin p) refl e where
    q : ℕ
    q = first_bad latin d p

    on : (r : Result XmlSurvey) → sheet (ltb q (length d)) (take q d) latin p ≡ r → xml_settled latin (take q d) n r ≡ Built k → Taken d n k
    on (Is s m) f e =
        let y = sheet_derived (ltb q (length d)) latin (take q d) p s m f in
        let o = ltb-false q (length d) y.0 in
        let w : take q d ≡ d = take_all q d o in
        let x : Derivation latin d p s m = rw w at y.1 in
        let c = all_legal latin d p o in
        let z = names_built d latin n s.entries s.manner.standard (rw w at e) in
        let v = z.1 in
        rw (← v) (taken (definition h g c.1 x.derived) x.clean z.0.names z.0.long)
    on (Not x) f e = never cc

  taken_of : {k : List XmlEntry} → xml_outcome d n ≡ Built k → Taken d n k
  unfolding xml_outcome
  taken_of {k} e = by (ltb 1048576 (length d)) refl e where
    on : (y : Prolog) → declaration_of d ≡ y → length d ≤ 1048576 → declared d n y ≡ Built k → Taken d n k
    on (prolog.Read latin p) g h e = sheet_taken latin p h ((declaration_exactly d (prolog.Read latin p)).0 g) e
    on (prolog.Fault a b) g h e = never cc

    by : (b : Bool) → ltb 1048576 (length d) ≡ b → cond b (Refusal 1 0) (declared d n (declaration_of d)) ≡ Built k → Taken d n k
    by true h e = never cc
    by false h e = on (declaration_of d) refl (ltb-false 1048576 (length d) h) e

  of_taken : {k : List XmlEntry} → Taken d n k → xml_outcome d n ≡ Built k
  unfolding xml_outcome sheet_of
  of_taken (taken {latin = latin} {s = s} (definition {n = p} h g c x) o names long) =
      let q = legal_all latin d p c in
      let w : take (first_bad latin d p) d ≡ d = take_all (first_bad latin d p) d q in
      rw (
        le-ltb 1048576 (length d) h,
        (declaration_exactly d (prolog.Read latin p)).1 g,
        le-ltb (first_bad latin d p) (length d) q,
        w,
        derived_sheet latin x o,
      )
      (names_there d latin n s.entries s.manner.standard (record { names = names; long = long }))

  -- THE FILE: a definition in XML is built into a table of these variables exactly when its file is derived as a survey of them, nothing in
  -- it is charged, its names are good where that is asked, and the table is long enough
  pub taken_exactly : (k : List XmlEntry) → (xml_outcome d n ≡ Built k) ↔ Taken d n k
  taken_exactly k = (taken_of, of_taken)

-- a definition is taken as one list of variables alone
pub taken_once : {d : List ℕ} {n : ℕ} {k l : List XmlEntry} → Taken d n k → Taken d n l → k ≡ l
taken_once {d} {n} x y = let e = of_taken d n x in let f = of_taken d n y in cc
