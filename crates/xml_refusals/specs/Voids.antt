-- WHAT FOLLOWS THE START TAG OF AN ELEMENT w THAT HOLDS NOTHING, in words: its end tag behind white space and comments, unless it ended
-- with its start tag; "a start tag that may not stand there ends the statement it stands in", 51 at its <, and so does what document 000
-- doesn't name; or it is refused there.
use Rattle.std.specs.Prelude.{◌≡◌, ◌↔◌, Bool, ℕ, ◌+◌, leb, eqb, length, drop, get_or, Option, Some, None}
use Rattle.std.proofs.Math.Path.{refl}
use Rattle.std.proofs.Common.{sym, ap, arith}
use Rattle.std.proofs.Math.Bool.{true, false, cond}
use mathlib.Core.List.{List, [], ◌∷◌}
use borrow.Author.Tests.{eq-eqb, eqb-true, lt-leb, leb-false}
use Rattle.markup.specs.rule.Gap.{gap_of}
use Rattle.markup.specs.rule.Reference.{reference_of}
use Rattle.markup.specs.declared.Skip.{Skip}
use Rattle.markup.specs.declared.Skip.TheVariants as skip
use Rattle.markup.proofs.Gaps.{Gapped, gap_exactly}
use Rattle.angles.specs.rule.Angle.{angle_of}
use Rattle.angles.specs.declared.Angle.{Angle}
use Rattle.angles.specs.declared.Angle.TheVariants as angle
use Rattle.tags.specs.declared.Tag.{Tag}
use Rattle.tags.specs.declared.Tag.TheVariants as tag
use Rattle.pairs.specs.declared.Stand.{Stand}
use Rattle.pairs.specs.declared.Stand.TheVariants as stand
use Rattle.pairs.specs.rule.Grammar.{Name}
use Rattle.pairs.specs.rule.Stand.{on_text_char, text_stand, stand_angle, stand_at, on_gap, stand_of, shut_of, bare_of}
use Rattle.pairs.specs.rule.Pair.{pair_bare, missed_of, pair_shut, closed_of, on_stand, pair_of}
use Rattle.pairs.proofs.Ends.{PairAt, pair_exactly}
use Rattle.tokens.specs.declared.Fault.{Fault}
use Rattle.tokens.specs.rule.Gap.{fault}
use Rattle.reading.specs.rule.Result.{Is, Not}
use Rattle.reading.specs.rule.Least.{Charge}
use Rattle.bridge.specs.Lowest.{never}
use Rattle.xml_reading.specs.rule.Open.{unknown_at, on_pair, within_element, opened}
use Rattle.xml_reading.specs.rule.Open as stands
use Rattle.xml_refusals.specs.Tags.{tag_refused_exactly}
use Rattle.xml_refusals.specs.Opens.{Opens, Whole, Broken, opens_stands, stands_opens, whole_read, read_whole}
use Rattle.xml_refusals.specs.Dues.{Less, NoTag, no_tag_exactly}

module _ (bad : Bool) (d w : List ℕ) where
  -- it ended with its start tag (`alone`), or ends at m; or something cuts it, which is charged
  pub data Voided : Bool → ℕ → List Charge → ℕ → Type 0 where
    alone : {n : ℕ} → Voided true n [] n
    pair : {n m : ℕ} → PairAt d w n m → Voided false n [] m
    cut : {n p e : ℕ} → Gapped d n p → Opens d p e → Whole d e → Voided false n (unknown_at p ∷ []) p
    foreign : {n p : ℕ} → Less bad d w n p → angle_of bad d p ≡ angle.Foreign → Voided false n (unknown_at p ∷ []) p

  -- or it is refused: a start tag that is broken; what is no tag, but for what is cut by
  pub data VoidStops : Bool → ℕ → Fault → Type 0 where
    in_start : {n p e : ℕ} {f : Fault} → Gapped d n p → Opens d p e → Broken bad d p e f → VoidStops false n f
    no_tag : {n : ℕ} {f : Fault} → NoTag bad d w n f → (f.number ≡ 51 → ⊥) → VoidStops false n f

  moved : {em : Bool} {n : ℕ} {k l : List Charge} {p m : ℕ} → k ≡ l → p ≡ m → Voided em n k p → Voided em n l m
  moved e f y = rw (← e, ← f) y

  stopped : {em : Bool} {n : ℕ} {f g : Fault} → f ≡ g → VoidStops em n f → VoidStops em n g
  stopped e y = rw (← e) y

  -- ---- a cut
  foreign_stands : {n p : ℕ} → Less bad d w n p → angle_of bad d p ≡ angle.Foreign → stand_of bad d n ≡ stand.Foreign p
  unfolding stand_of stand_at
  foreign_stands {n} {p} l a =
      rw ((gap_exactly bad d n p).1 l.gap, lt-leb (length d) p l.inside, eq-eqb (get_or d p 0) 60 l.less, a)

  -- what is refused as no tag is refused so
  standing : (n : ℕ) (s : Stand) {f : Fault} → stand_of bad d n ≡ s → opened bad d w s ≡ Not f → NoTag bad d w n f
  unfolding within_element
  standing n s {f} g e = (no_tag_exactly bad d w n f).0 (rw g e)

  record ForeignAt (n p : ℕ) : Type 0 where
    pub stands : Less bad d w n p
    pub opens : angle_of bad d p ≡ angle.Foreign

  stands_foreign : (n : ℕ) {p : ℕ} → stand_of bad d n ≡ stand.Foreign p → ForeignAt n p
  unfolding stand_of stand_at text_stand
  stands_foreign n {p} f = on (gap_of bad d n) refl f where
    text_no : (q : ℕ) (b : Bool) (c : Option (ℕ × ℕ)) → cond b (on_text_char q c) (stand.Text q) ≡ stand.Foreign p → ForeignAt n p
    text_no q true (Some (c, m)) e = never cc
    text_no q true None e = never cc
    text_no q false c e = never cc

    on : (r : Skip) → gap_of bad d n ≡ r → on_gap bad d r ≡ stand.Foreign p → ForeignAt n p
    on (skip.Broken q) g e = never cc
    on (skip.Past q) g e = by (leb (length d) q) (eqb (get_or d q 0) 60) refl refl e where
      angles : leb (length d) q ≡ false → eqb (get_or d q 0) 60 ≡ true → (a : Angle) → angle_of bad d q ≡ a → stand_angle q a
          ≡ stand.Foreign p
          → ForeignAt n p
      angles h i (angle.Start m) a e = never cc
      angles h i (angle.Close m) a e = never cc
      angles h i angle.Foreign a e =
          let j : q ≡ p = cc in
          rw (← j) (record {
            stands = record {
              gap = (gap_exactly bad d n q).0 g;
              inside = leb-false (length d) q h;
              less = eqb-true (get_or d q 0) 60 i;
            };
            opens = a;
          })
      angles h i (angle.Broken m) a e = never cc

      by : (x y : Bool) → leb (length d) q ≡ x → eqb (get_or d q 0) 60 ≡ y
          → cond x (stand.Broken q) (cond y (stand_angle q (angle_of bad d q)) (text_stand d q)) ≡ stand.Foreign p → ForeignAt n p
      by true y h i e = never cc
      by false true h i e = angles h i (angle_of bad d q) refl e
      by false false h i e = text_no q (eqb (get_or d q 0) 38) (reference_of q (drop (q + 1) d)) e

  -- ---- read
  pair_read : (n : ℕ) {l : List Charge} {m : ℕ} → Name w → on_pair bad d (pair_of bad d n w) ≡ Is l m → Voided false n l m
  unfolding pair_of missed_of closed_of
  pair_read n {l} {m} a e = on (stand_of bad d n) refl e where
    bare : (p k : ℕ) → stand_of bad d n ≡ stand.Start p k → (t : Tag) → bare_of bad d p k ≡ t → on_pair bad d (pair_bare p t) ≡ Is l m
        → Voided false n l m
    bare p k g (tag.Read h em q j) r e =
        let o = stands_opens bad d n g in
        let i : unknown_at p ∷ [] ≡ l = cc in
        let v : p ≡ m = cc in
        moved i v (cut o.0 o.1 (read_whole bad d p k r))
    bare p k g (tag.Fault x y) r e = never cc

    shut : (p k : ℕ) → stand_of bad d n ≡ stand.Close p k → (r : Skip) → shut_of bad d p k w ≡ r → on_pair bad d (pair_shut r) ≡ Is l m
        → Voided false n l m
    shut p k g (skip.Past j) r e =
        let i : [] ≡ l = cc in
        let v : j ≡ m = cc in
        moved i v (pair ((pair_exactly bad d w n j a).0 (rw (g, r))))
    shut p k g (skip.Broken q) r e = never cc

    on : (s : Stand) → stand_of bad d n ≡ s → on_pair bad d (on_stand bad d w s) ≡ Is l m → Voided false n l m
    on (stand.Start p k) g e = bare p k g (bare_of bad d p k) refl e
    on (stand.Close p k) g e = shut p k g (shut_of bad d p k w) refl e
    on (stand.Foreign p) g e =
        let o = stands_foreign n g in
        let i : unknown_at p ∷ [] ≡ l = cc in
        let v : p ≡ m = cc in
        moved i v (foreign o.stands o.opens)
    on (stand.Text p) g e = never cc
    on (stand.Broken p) g e = never cc

  void_read : (em : Bool) (n : ℕ) {l : List Charge} {m : ℕ} → Name w → stands.nothing bad d w em n ≡ Is l m → Voided em n l m
  unfolding stands.nothing
  void_read true n {l} {m} a e =
      let i : [] ≡ l = cc in
      let v : n ≡ m = cc in
      moved i v alone
  void_read false n a e = pair_read n a e

  read_void : {em : Bool} {n : ℕ} {l : List Charge} {m : ℕ} → Name w → Voided em n l m → stands.nothing bad d w em n ≡ Is l m
  unfolding stands.nothing pair_of missed_of
  read_void a alone = refl
  read_void {n = n} {m = m} a (pair y) = rw ((pair_exactly bad d w n m a).1 y)
  read_void a (cut {p = p} g o y) = rw (opens_stands bad d g o, whole_read bad d p y)
  read_void a (foreign l o) = rw (foreign_stands l o)

  -- VOID: what follows is read so, exactly
  pub void_exactly : (em : Bool) (n : ℕ) (l : List Charge) (m : ℕ) → Name w → (stands.nothing bad d w em n ≡ Is l m) ↔ Voided em n l m
  void_exactly em n l m a = (void_read em n a, read_void a)

  -- ---- refused
  void_seen : (em : Bool) (n : ℕ) {f : Fault} → stands.nothing bad d w em n ≡ Not f → VoidStops em n f
  unfolding stands.nothing pair_of missed_of closed_of
  void_seen true n e = never cc
  void_seen false n {f} e = on (stand_of bad d n) refl e where
    bare : (p k : ℕ) → stand_of bad d n ≡ stand.Start p k → (t : Tag) → bare_of bad d p k ≡ t → on_pair bad d (pair_bare p t) ≡ Not f
        → VoidStops false n f
    bare p k g (tag.Read h em q j) r e = never cc
    bare p k g (tag.Fault x y) r e =
        let o = stands_opens bad d n g in
        let i : fault x y ≡ f = cc in
        stopped i (in_start o.0 o.1 ((tag_refused_exactly bad d p k [] [] [] 0 0 0 0 (fault x y)).0 r))

    shut : (p k : ℕ) → stand_of bad d n ≡ stand.Close p k → (r : Skip) → shut_of bad d p k w ≡ r → on_pair bad d (pair_shut r) ≡ Not f
        → VoidStops false n f
    shut p k g (skip.Past j) r e = never cc
    shut p k g (skip.Broken q) r e =
        let i : fault 50 q ≡ f = cc in stopped i (no_tag (standing n (stand.Close p k) g (rw r)) (λ z. omega arith))

    on : (s : Stand) → stand_of bad d n ≡ s → on_pair bad d (on_stand bad d w s) ≡ Not f → VoidStops false n f
    on (stand.Start p k) g e = bare p k g (bare_of bad d p k) refl e
    on (stand.Close p k) g e = shut p k g (shut_of bad d p k w) refl e
    on (stand.Foreign p) g e = never cc
    on (stand.Text p) g e =
        let i : fault 2 p ≡ f = cc in stopped i (no_tag (standing n (stand.Text p) g refl) (λ z. omega arith))
    on (stand.Broken p) g e =
        let i : fault 50 p ≡ f = cc in stopped i (no_tag (standing n (stand.Broken p) g refl) (λ z. omega arith))

  void_halted : {em : Bool} {n : ℕ} {f : Fault} → VoidStops em n f → stands.nothing bad d w em n ≡ Not f
  unfolding stands.nothing pair_of missed_of closed_of within_element
  void_halted {f = f} (in_start {p = p} {e = e} g o y) =
      rw (opens_stands bad d g o, (tag_refused_exactly bad d p e [] [] [] 0 0 0 0 f).1 y)
  void_halted {n = n} {f = f} (no_tag y z) = on (stand_of bad d n) ((no_tag_exactly bad d w n f).1 y) where
    shut : (p : ℕ) (r : Skip) → stands.on_shut p r ≡ Not f → on_pair bad d (pair_shut r) ≡ Not f
    shut p (skip.Past j) e = never cc
    shut p (skip.Broken q) e = let i : fault 50 q ≡ f = cc in rw i

    on : (s : Stand) → opened bad d w s ≡ Not f → on_pair bad d (on_stand bad d w s) ≡ Not f
    on (stand.Start p k) e = never cc
    on (stand.Close p k) e = shut p (shut_of bad d p k w) e
    on (stand.Foreign p) e = let i : fault 51 p ≡ f = cc in absurd (z (ap (λ (x : Fault). x.number) (sym i)))
    on (stand.Text p) e = let i : fault 2 p ≡ f = cc in rw i
    on (stand.Broken p) e = let i : fault 50 p ≡ f = cc in rw i

  -- and refused so, exactly
  pub void_refused_exactly : (em : Bool) (n : ℕ) (f : Fault) → (stands.nothing bad d w em n ≡ Not f) ↔ VoidStops em n f
  void_refused_exactly em n f = (void_seen em n, void_halted)
