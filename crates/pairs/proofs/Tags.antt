-- Start tags by their bytes: the tag's end, and what is read of a tag that knows one attribute of any form, or none.
use mathlib.Core.Path.{◌≡◌, refl, sym, ◌∙◌}
use mathlib.Core.Bool.{Bool, true, false, cond, ◌&&◌, ◌||◌, not}
use mathlib.Core.List.{List, [], ◌∷◌, ◌++◌}
use Prim.Native.Nat.{ℕ, zero, suc, ◌+◌, ◌≤◌, ◌<◌}
use native.Mathlib.Omega.{arith}
use lib.Dec.{leb, eqb, ltb}
use lib.ListN.{length, get_or}
use borrow.Author.Tests.{eq-eqb, eqb-true, leb-false, lt-leb}
use Rattle.markup.specs.rule.Bytes.{of_kind, is_white, starts_name, end_fault}
use Rattle.markup.proofs.Stretches.{Stretch, run_stretch, stretch_run}
use Rattle.attributes.specs.rule.Attribute.{run_at, slash_of, behind_of, named_of, equals_of, valued_of, on_quoted, quoted_of, attribute_of}
use Rattle.attributes.specs.declared.Attribute.TheVariants.{Shut, Faulty}
use Rattle.markup.specs.declared.Skip.{Skip}
use Rattle.markup.specs.declared.Skip.TheVariants as skip
use Rattle.tags.specs.rule.Tag.{misses_of, nothing_held, tag_of}
use Rattle.tags.specs.declared.Held.{Held}
use Rattle.tags.specs.declared.Tag.TheVariants.{Read}
use Rattle.tags.proofs.Exactly.{tag_exactly}
use Rattle.pairs.specs.rule.Grammar.{White, closing, Behind, behind}
use Rattle.pairs.proofs.Lies.{Lies, lies_join, lies_byte, lies_cut, lies_first, stretch_lies}
use Rattle.pairs.proofs.Given.{placed_listed, listed_placed, as_stretch}

-- ---- the tag's end
pub record ShutBy (d : List ℕ) (p n : ℕ) (em : Bool) : Type 0 where
  pub white : List ℕ
  pub passes : White white
  pub lies : Lies d p n (white ++ closing em)

module _ (bad : Bool) (d : List ℕ) (o : ℕ) where
  slash_shut : (q : ℕ) {em : Bool} {r n : ℕ} → q < length d → get_or d q 0 ≡ 47 → slash_of bad d o q ≡ Shut em r n → (em ≡ true)
      × Lies d q n (47 ∷ 62 ∷ [])
  unfolding slash_of
  slash_shut q {em} {r} {n} h b f = by (leb (length d) (q + 1)) (eqb (get_or d (q + 1) 0) 62) refl refl f where
    by : (x y : Bool) → leb (length d) (q + 1) ≡ x → eqb (get_or d (q + 1) 0) 62 ≡ y
        → cond x (Faulty (end_fault bad q o)) (cond y (Shut true q (q + 2)) (Faulty q)) ≡ Shut em r n → (em ≡ true)
        × Lies d q n (47 ∷ 62 ∷ [])
    by true y g i f = let z : ◌≡◌ {A = ℕ} 0 1 = cc in absurd (omega arith)
    by false true g i f =
        let k : q + 2 ≡ n = cc in (
          cc,
          lies_join (lies_byte d q (q + 1) 47 h b refl)
              (lies_byte d (q + 1) n 62 (leb-false (length d) (q + 1) g) (eqb-true (get_or d (q + 1) 0) 62 i) (omega arith)),
        )
    by false false g i f = let z : ◌≡◌ {A = ℕ} 0 1 = cc in absurd (omega arith)

  named_shut : (q : ℕ) {em : Bool} {r n : ℕ} → named_of bad d o q ≡ Shut em r n → ⊥
  unfolding named_of equals_of valued_of
  named_shut q {em} {r} {n} f =
      by (leb (length d) m) (eqb (get_or d m 0) 61) (leb (length d) v) (eqb (get_or d v 0) 34 || eqb (get_or d v 0) 39)
      (quoted_of bad o (get_or d v 0) d (v + 1)) f where
        e : ℕ
        e = run_at 1 d q

        m : ℕ
        m = run_at 0 d (run_at 1 d q)

        v : ℕ
        v = run_at 0 d (run_at 0 d (run_at 1 d q) + 1)

        by : (a b c x : Bool) (k : Skip)
            → cond a (Faulty (end_fault bad m o))
            (cond b (cond c (Faulty (end_fault bad v o)) (cond x (on_quoted q e (v + 1) k) (Faulty v)))
            (Faulty m)) ≡ Shut em r n → ⊥
        by true b c x k f = let z : ◌≡◌ {A = ℕ} 0 1 = cc in omega arith
        by false true true x k f = let z : ◌≡◌ {A = ℕ} 0 1 = cc in omega arith
        by false true false true (skip.Past i) f = let z : ◌≡◌ {A = ℕ} 0 1 = cc in omega arith
        by false true false true (skip.Broken i) f = let z : ◌≡◌ {A = ℕ} 0 1 = cc in omega arith
        by false true false false k f = let z : ◌≡◌ {A = ℕ} 0 1 = cc in omega arith
        by false false c x k f = let z : ◌≡◌ {A = ℕ} 0 1 = cc in omega arith

  pub shut_sound : (p : ℕ) {em : Bool} {q n : ℕ} → attribute_of bad d o p ≡ Shut em q n → ShutBy d p n em
  unfolding attribute_of behind_of
  shut_sound p {em} {q} {n} f =
      by (leb (length d) w) (eqb (get_or d w 0) 62) (eqb (get_or d w 0) 47) (eqb w p) (starts_name (get_or d w 0)) refl refl refl f where
        w : ℕ
        w = run_at 0 d p

        s : Stretch (of_kind 0) d p w
        s = run_stretch (of_kind 0) d p

        slashed : (em ≡ true) × Lies d w n (47 ∷ 62 ∷ []) → ShutBy d p n em
        slashed r = let e = r.0 in record { white = s.bytes; passes = s.passes; lies = rw e (lies_join (stretch_lies s) r.1) }

        by : (a b c x y : Bool) → leb (length d) w ≡ a → eqb (get_or d w 0) 62 ≡ b → eqb (get_or d w 0) 47 ≡ c
            → cond a (Faulty (end_fault bad w o)) (cond b (Shut false w (w + 1))
            (cond c (slash_of bad d o w) (cond x (Faulty w) (cond y (named_of bad d o w) (Faulty w))))) ≡ Shut em q n
            → ShutBy d p n em
        by true b c x y g h i f = let z : ◌≡◌ {A = ℕ} 0 1 = cc in absurd (omega arith)
        by false true c x y g h i f =
            let k : w + 1 ≡ n = cc in
            let e : em ≡ false = cc in
            record {
              white = s.bytes;
              passes = s.passes;
              lies = rw e
                  (lies_join (stretch_lies s) (lies_byte d w n 62 (leb-false (length d) w g) (eqb-true (get_or d w 0) 62 h) (sym k)));
            }
        by false false true x y g h i f = slashed (slash_shut w (leb-false (length d) w g) (eqb-true (get_or d w 0) 47 i) f)
        by false false false true y g h i f = let z : ◌≡◌ {A = ℕ} 0 1 = cc in absurd (omega arith)
        by false false false false true g h i f = absurd (named_shut w f)
        by false false false false false g h i f = let z : ◌≡◌ {A = ℕ} 0 1 = cc in absurd (omega arith)

  mark_no_white : (b : ℕ) → (b ≡ 62) → of_kind 0 b ≡ false
  unfolding of_kind is_white
  mark_no_white b e = rw e

  slash_no_white : (b : ℕ) → (b ≡ 47) → of_kind 0 b ≡ false
  unfolding of_kind is_white
  slash_no_white b e = rw e

  pub shut_complete : (p n : ℕ) (em : Bool) {v : List ℕ} → White v → Lies d p n (v ++ closing em) → attribute_of bad d o p
      ≡ Shut em (p + length v) n
  unfolding attribute_of behind_of slash_of
  shut_complete p n false {v} w l =
      let c = lies_cut d p n v (62 ∷ []) l in
      let f = lies_first c.1 in
      let k = f.rest.place in
      let j : n ≡ p + length v + 1 = omega arith in
      let r : run_at 0 d p ≡ p + length v = stretch_run (of_kind 0) d p (p + length v) (as_stretch w c.0) (mark_no_white _ f.byte)
      f.inside in
      rw (r, lt-leb (length d) (p + length v) f.inside, eq-eqb (get_or d (p + length v) 0) 62 f.byte, j)
  shut_complete p n true {v} w l =
      let c = lies_cut d p n v (47 ∷ 62 ∷ []) l in
      let f = lies_first c.1 in
      let g = lies_first f.rest in
      let k = g.rest.place in
      let j : n ≡ p + length v + 2 = omega arith in
      let r : run_at 0 d p ≡ p + length v = stretch_run (of_kind 0) d p (p + length v) (as_stretch w c.0) (slash_no_white _ f.byte)
      f.inside in
      rw (
        r,
        lt-leb (length d) (p + length v) f.inside,
        f.byte,
        lt-leb (length d) (p + length v + 1) g.inside,
        eq-eqb (get_or d (p + length v + 1) 0) 62 g.byte,
        j,
      )

-- ---- the tag
-- from `at` to n what follows a start tag's name, whose first unknown attribute stands at a
pub record TagSaid (k d : List ℕ) (at n : ℕ) (em : Bool) (required a : ℕ) : Type 0 where
  pub bytes : List ℕ
  pub given : Bool
  pub behind : Behind k em at bytes given a
  pub lies : Lies d at n bytes
  pub enough : ltb 0 required ≡ true → given ≡ true

-- a tag that was read
pub record TagRead (bad : Bool) (k d : List ℕ) (o at n : ℕ) (em : Bool) (required a : ℕ) : Type 0 where
  pub held : Held
  pub place : ℕ
  pub reads : tag_of bad d o at k [] [] 0 0 0 required ≡ Read held em place n
  pub unknown : held.unknown ≡ a

module _ (bad : Bool) (k d : List ℕ) (o at : ℕ) where
  full_missing : (required : ℕ) (j : Held) → misses_of required j ≡ false → ltb 0 required ≡ true → not (eqb j.a 0) ≡ true
  unfolding misses_of
  full_missing required j m r = by (eqb j.a 0) refl (rw r at m) where
    by : (b : Bool) → eqb j.a 0 ≡ b → ((true && eqb j.a 0) || ((ltb 1 required && eqb j.b 0) || (ltb 2 required && eqb j.c 0)))
        ≡ false → not b ≡ true
    by true e m = let z = rw e at m in let y : ◌≡◌ {A = ℕ} 0 1 = cc in absurd (omega arith)
    by false e m = refl

  told : {em g : Bool} {p a b : ℕ} {s : List ℕ} → a ≡ b → Behind k em p s g a → Behind k em p s g b
  told e x = rw (← e) x

  pub tag_sound : (required : ℕ) (j : Held) (em : Bool) (q n : ℕ) → tag_of bad d o at k [] [] 0 0 0 required ≡ Read j em q n
      → TagSaid k d at n em required j.unknown
  tag_sound required j em q n e =
      let t = (tag_exactly bad d o at k [] [] 0 0 0 required j em q n).0 e in
      let l = placed_listed k d t.placed in
      let s = shut_sound bad d o j.next t.shut in
      record {
        bytes = l.bytes ++ (s.white ++ closing em);
        given = l.given;
        behind = told (sym l.unknown) (behind l.attributes s.passes);
        lies = lies_join l.lies s.lies;
        enough = λ r. sym l.filled ∙ full_missing required j t.whole r;
      }

  required_there : (required : ℕ) (j : Held) → required ≤ 1 → (ltb 0 required ≡ true → not (eqb j.a 0) ≡ true) → misses_of required j
      ≡ false
  unfolding misses_of
  required_there zero j h f = refl
  required_there (suc zero) j h f = by (eqb j.a 0) (f refl) where
    by : (b : Bool) → not b ≡ true → ((true && b) || ((false && eqb j.b 0) || (false && eqb j.c 0))) ≡ false
    by true e = let y : ◌≡◌ {A = ℕ} 0 1 = cc in absurd (omega arith)
    by false e = refl
  required_there (suc (suc r)) j h f = absurd (omega arith)

  pub tag_complete : (required : ℕ) (em : Bool) {s : List ℕ} {g : Bool} {a : ℕ} → required ≤ 1 → Behind k em at s g a
      → (ltb 0 required ≡ true → g ≡ true) → (n : ℕ) → Lies d at n s → TagRead bad k d o at n em required a
  tag_complete required em h (behind {s = s} {v} r w) f n l =
      let c = lies_cut d at n s (v ++ closing em) l in
      let y = listed_placed k d r (nothing_held at) (at + length s) refl refl c.0 in
      let nx = y.next in
      let sh = shut_complete bad d o (at + length s) n em w c.1 in
      record {
        held = y.held;
        place = at + length s + length v;
        reads = (tag_exactly bad d o at k [] [] 0 0 0 required y.held em (at + length s + length v) n).1
            (record { placed = y.placed; shut = rw nx sh; whole = required_there required y.held h (λ e. y.filled ∙ f e) });
        unknown = y.unknown;
      }
