-- Inside a variable: what is due is found first and read then, and each answer lies within the file.
use Rattle.std.specs.Prelude.{Ok, Err}
use mathlib.Core.Path.{◌≡◌, refl, ap, ◌∙◌}
use mathlib.Core.Bool.{Bool}
use mathlib.Core.List.{List}
use mathlib.Core.Option.{get_or}
use Prim.Native.Nat.{ℕ, ◌≤◌}
use native.Mathlib.Omega.{arith}
use lib.ListN.{length}
use borrow.Author.Tests.{le-ltb}
use Rattle.scan.specs.Number.{capped}
use Rattle.tokens.specs.declared.Fault.{Fault}
use Rattle.tokens.specs.declared.Quoted.{Quoted}
use Rattle.statements.specs.declared.Position as located
use Rattle.filters.specs.Code.{phrase_end, phrase_next}
use Rattle.sheets.specs.declared.Fronted.TheVariants as fronted
use Rattle.survey.specs.rule.Survey.{KeptText}
use Rattle.reading.specs.rule.Result.{Result, Is, Not, Reader, bind, give}
use Rattle.reading.specs.rule.Statement.{Position}
use Rattle.bridge.specs.Statements.{to_stated}
use Rattle.bridge.specs.Lowest.{never}
use Rattle.xml_reading.specs.rule.Word.{VARIABLE}
use Rattle.xml_reading.specs.rule.Open.{within_element, due}
use Rattle.elements.specs.declared.Due.TheVariants as dues
use Rattle.elements.specs.Code.{due_of, phrase_of}
use Rattle.xml_reading.specs.rule.Open.{start, shut}
use Rattle.xml_reading.specs.rule.Open as rule
use Rattle.elements.specs.declared.Open.{Open}
use Rattle.elements.specs.declared.Open.TheVariants as opened
use Rattle.elements.specs.Code.{Within}
use Rattle.elements.proofs.Dues.{read_due, due_then}
use Rattle.xml_laws.specs.Reads.{Lying, Positioned, bound, within_long}
use Rattle.xml_laws.specs.Entries.{due_is}
use Rattle.sheets.specs.Code.{due_in, DueEnds, PhraseEnds, StatedEnds, placed_of}
use Rattle.tokens.specs.rule.Gap.{OrFault}

pub due_read : (x : Result ℕ) {p e : ℕ} → due_of x ≡ dues.At p e → x ≡ Is p e
due_read (Is q m) {p} {e} f = let a : q ≡ p = cc in let b : m ≡ e = cc in rw (a, b)
due_read (Not g) f = never cc

pub due_refused : (x : Result ℕ) {f : Fault} → due_of x ≡ dues.Not f → x ≡ Not f
due_refused (Is q m) e = never cc
due_refused (Not g) {f} e = let a : g ≡ f = cc in ap Not a

pub within_first : (d : List ℕ) (at : ℕ) (o : Open) → Within d at o → Within d 0 o
within_first d at (opened.Start p e) w = (omega arith, w.1, w.2)
within_first d at (opened.Shut p n) w = (omega arith, w.1, w.2)
within_first d at (opened.Not f) w = tt

module _ (bad : Bool) (d : List ℕ) where
  -- what is due is found first and read then
  due_after : {A : Type 0} (w : List ℕ) (x : Result rule.Open) (k : ℕ → Reader A) → bind x (λ o. due bad d w o k)
      ≡ bind (bind x (λ o. due bad d w o give)) k
  due_after w (Is (start p) e) k = due_then bad d w (opened.Start p e) k
      ∙ ap (λ (r : Result ℕ). bind r k) (read_due (due bad d w (start p) give e))
  due_after w (Is (shut p) e) k = refl
  due_after w (Not f) k = refl

  pub due_goes : {A : Type 0} (w : List ℕ) (k : ℕ → Reader A) (at : ℕ) {p e : ℕ} → due_of (due_in bad d w at) ≡ dues.At p e
      → bind (within_element bad d VARIABLE at) (λ o. due bad d w o k) ≡ k p e
  due_goes w k at f = due_after w (within_element bad d VARIABLE at) k ∙ rw (due_read (due_in bad d w at) f)

  pub due_stops : {A : Type 0} (w : List ℕ) (k : ℕ → Reader A) (at : ℕ) {g : Fault} → due_of (due_in bad d w at) ≡ dues.Not g
      → bind (within_element bad d VARIABLE at) (λ o. due bad d w o k) ≡ Not g
  due_stops w k at f = due_after w (within_element bad d VARIABLE at) k ∙ rw (due_refused (due_in bad d w at) f)

  pub due_ends : (w : List ℕ) (at : ℕ) → DueEnds d (due_of (due_in bad d w at))
  due_ends w at = by (due_in bad d w at) refl where
    by : (x : Result ℕ) → due_in bad d w at ≡ x → DueEnds d (due_of x)
    by (Is p e) f =
        let b = bound (within_element bad d VARIABLE at) (λ o. due bad d w o give) p e f in
        let x = due_is bad d w b.value give b.place b.then_is in
        let q : b.place ≡ e = cc in
        let l = within_long bad d VARIABLE at b.first_is in
        (rw (← q) l.0, rw (← q) l.1)
    by (Not g) f = tt

  pub phrase_ends : (x : Result KeptText) → ((t : KeptText) (n : ℕ) → x ≡ Is t n → Lying bad d t n) → PhraseEnds d (phrase_of x)
  phrase_ends (Is t n) h = let l = h t n refl in (l.inside, l.next)
  phrase_ends (Not g) h = tt

  pub stated_ends : (x : Result Position) → ((p : Position) (n : ℕ) → x ≡ Is p n → Positioned bad d p n) → StatedEnds d (to_stated x)
  stated_ends (Is p n) h =
      let l = h p n refl in
      let a = l.from_one in
      let b = l.ordered in
      let c = l.low in
      let u : capped p.start.value ≡ p.start.value = capped_low p.start.value (omega arith) in
      let v : capped (get_or p.finish p.start).value
      ≡ (get_or p.finish p.start).value = capped_low (get_or p.finish p.start).value (omega arith) in
      (l.next, rw u a, rw (u, v) b, rw v c)
    where
      capped_low : (n : ℕ) → n ≤ 16384 → capped n ≡ n
      capped_low n h = rw (le-ltb 1000000000000000 n (omega arith))
  stated_ends (Not g) h = tt

-- ---- a name, and a position
pub name_ends : (d : List ℕ) (r : OrFault Quoted) → phrase_end r ≤ length d → phrase_next r ≤ length d → PhraseEnds d r
name_ends d (Ok q) a b = (a, b)
name_ends d (Err f) a b = tt

module _ (ident kind usage : ℕ) (a b : Quoted) where
  pub placed_by : (x : Result Position) (q : located.Position) → to_stated x ≡ Ok q
      → fronted.Is (record {
        ident = ident;
        name = record { place = a.place; length = a.length; next = 0 };
        label = record { place = b.place; length = b.length; next = 0 };
        kind = kind;
        start = q.start;
        finish = q.finish;
        place = q.place;
        next = 0;
      }) usage q.next ≡ placed_of ident kind usage a b x
  placed_by (Is p n) q e =
      let j : record {
        start = capped p.start.value;
        finish = capped (get_or p.finish p.start).value;
        place = p.start.place;
        next = n;
      } ≡ q = cc in
      rw (← j)
  placed_by (Not f) q e = never cc

  pub placed_not : (x : Result Position) {f : Fault} → to_stated x ≡ Err f → fronted.Not f ≡ placed_of ident kind usage a b x
  placed_not (Is p n) e = never cc
  placed_not (Not g) {f} e = let j : g ≡ f = cc in rw j
