-- A < WITH A NAME, behind white space and comments: what the reader finds there as a start tag, both ways; and a start tag that may not
-- stand there, which "is read for its form only (50 first)", else it is 51 at its <.
use Rattle.std.specs.Prelude.{◌≡◌, Bool, true, false, List, [], ℕ, ◌+◌, ◌<◌, length, get_or}
use Rattle.std.proofs.Math.Path.{refl}
use borrow.Author.Tests.{eq-eqb, ne_eqb, lt-leb}
use Rattle.below.specs.Below.{holds_not}
use Rattle.markup.specs.rule.Bytes.{starts_name}
use Rattle.markup.proofs.Gaps.{Gapped, gap_exactly}
use Rattle.angles.specs.rule.Angle.{angle_of}
use Rattle.angles.specs.declared.Angle.TheVariants as angle
use Rattle.attributes.proofs.Exactly.{Ended, shut_exactly}
use Rattle.tags.specs.declared.Held.{Held}
use Rattle.tags.specs.declared.Tag.{Tag}
use Rattle.tags.specs.declared.Tag.TheVariants as tag
use Rattle.tags.specs.rule.Tag.{misses_of}
use Rattle.tags.specs.rule.Tag as tags
use Rattle.tags.proofs.Exactly.{Placed, tag_exactly}
use Rattle.pairs.specs.declared.Stand.TheVariants as stand
use Rattle.pairs.specs.rule.Stand.{stand_at, stand_of, bare_of}
use Rattle.pairs.proofs.Stands.{NameAt, stand_start, angle_start}
use Rattle.tokens.specs.declared.Fault.{Fault}
use Rattle.tokens.specs.rule.Gap.{fault}
use Rattle.reading.specs.rule.Result.{Is, Not, Reader, bind}
use Rattle.xml_reading.specs.rule.Open.{start, within_element, on_bare, misplaced}
use Rattle.xml_derivation_laws.specs.Stands as found
use Rattle.xml_refusals.specs.Tags.{TagFaults, tag_refused_exactly}

-- at p a < stands, and a name that ends at e
pub record Opens (d : List ℕ) (p e : ℕ) : Type 0 where
  pub inside : p < length d
  pub less : get_or d p 0 ≡ 60
  pub name : NameAt d (p + 1) e

-- behind a name that ends at e a start tag goes on to its end, with whatever attributes
pub record Whole (d : List ℕ) (e : ℕ) : Type 0 where
  pub held : Held
  pub alone : Bool
  pub mark : ℕ
  pub behind : ℕ
  pub placed : Placed d [] [] [] 0 0 0 (tags.nothing_held e) held
  pub ended : Ended d held.next alone mark behind

-- a start tag that is broken behind its name
abbrev pub Broken : Bool → List ℕ → ℕ → ℕ → Fault → Type 0
Broken bad d p e f = TagFaults bad d p [] [] [] 0 0 0 0 (tags.nothing_held e) f

-- a start tag that may not stand there
pub data Misplaced (bad : Bool) (d : List ℕ) (p e : ℕ) : Fault → Type 0 where
  whole : Whole d e → Misplaced bad d p e (fault 51 p)
  broken : {f : Fault} → Broken bad d p e f → Misplaced bad d p e f

module _ (bad : Bool) (d : List ℕ) where
  mark_apart : (b : ℕ) → starts_name b ≡ true → (b ≡ 47 → ⊥) × (b ≡ 63 → ⊥) × (b ≡ 33 → ⊥)
  unfolding starts_name
  mark_apart b e = (λ x. holds_not e (rw x), λ x. holds_not e (rw x), λ x. holds_not e (rw x))

  pub opens_start : {p e : ℕ} → Opens d p e → angle_of bad d p ≡ angle.Start e
  unfolding angle_of
  opens_start {p} {e} o =
      let n = o.name in
      let m = mark_apart (get_or d (p + 1) 0) n.starts in
      rw (
        lt-leb (length d) (p + 1) n.inside,
        ne_eqb (get_or d (p + 1) 0) 47 m.0,
        ne_eqb (get_or d (p + 1) 0) 63 m.1,
        ne_eqb (get_or d (p + 1) 0) 33 m.2,
        n.starts,
        ← n.ends,
      )

  -- ---- found where it stands
  pub opens_stands : {n p e : ℕ} → Gapped d n p → Opens d p e → stand_of bad d n ≡ stand.Start p e
  unfolding stand_of stand_at
  opens_stands {n} {p} g o =
      rw ((gap_exactly bad d n p).1 g, lt-leb (length d) p o.inside, eq-eqb (get_or d p 0) 60 o.less, opens_start o)

  pub stands_opens : (n : ℕ) {p e : ℕ} → stand_of bad d n ≡ stand.Start p e → Gapped d n p × Opens d p e
  stands_opens n {p} {e} f =
      let s = stand_start bad d n p e f in
      ((gap_exactly bad d n p).0 s.gap, record { inside = s.inside; less = s.less; name = angle_start bad d p e s.opens })

  pub opens_found : (w : List ℕ) {n p e : ℕ} → Gapped d n p → Opens d p e → within_element bad d w n ≡ Is (start p) e
  unfolding within_element
  opens_found w g o = rw (opens_stands g o)

  pub found_opens : (w : List ℕ) (n : ℕ) {p e : ℕ} → within_element bad d w n ≡ Is (start p) e → Opens d p e
  found_opens w n f = (stands_opens n (found.at_start bad d w n f)).1

  -- ---- read for its form only
  none_missed : (h : Held) → misses_of 0 h ≡ false
  unfolding misses_of
  none_missed h = refl

  pub whole_read : (p : ℕ) {e : ℕ} (y : Whole d e) → bare_of bad d p e ≡ tag.Read y.held y.alone y.mark y.behind
  whole_read p {e} y =
      (tag_exactly bad d p e [] [] [] 0 0 0 0 y.held y.alone y.mark y.behind).1
      (record { placed = y.placed; shut = (shut_exactly bad d p y.held.next).1 y.ended; whole = none_missed y.held })

  abbrev pub read_whole : (p e : ℕ) {h : Held} {alone : Bool} {q m : ℕ} → bare_of bad d p e ≡ tag.Read h alone q m → Whole d e
  read_whole p e {h} {alone} {q} {m} r =
      let t = (tag_exactly bad d p e [] [] [] 0 0 0 0 h alone q m).0 r in
      record {
        held = h;
        alone = alone;
        mark = q;
        behind = m;
        placed = t.placed;
        ended = (shut_exactly bad d p h.next).0 t.shut;
      }

  pub misplaced_is : {A : Type 0} {p e : ℕ} {f : Fault} → Misplaced bad d p e f → misplaced bad d {A = A} p e ≡ Not f
  misplaced_is {p = p} (whole y) = rw (whole_read p y)
  misplaced_is {p = p} {e = e} {f = f} (broken y) = rw ((tag_refused_exactly bad d p e [] [] [] 0 0 0 0 f).1 y)

  pub misplaced_seen : {A B : Type 0} {p e : ℕ} (K : A → Reader B) {f : Fault} → bind (misplaced bad d {A = A} p e) K ≡ Not f
      → Misplaced bad d p e f
  misplaced_seen {A} {B} {p} {e} K {f} r = by (bare_of bad d p e) refl r where
    by : (t : Tag) → bare_of bad d p e ≡ t → bind (on_bare bad d {A = A} p t) K ≡ Not f → Misplaced bad d p e f
    by (tag.Read h em q n) g r = let i : fault 51 p ≡ f = cc in rw (← i) (whole (read_whole p e g))
    by (tag.Fault a b) g r =
        let i : fault a b ≡ f = cc in rw (← i) (broken ((tag_refused_exactly bad d p e [] [] [] 0 0 0 0 (fault a b)).0 g))
