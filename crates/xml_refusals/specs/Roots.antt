-- NO ROOT WHERE IT IS DUE, at k, in words: "Before `<sss`: another start tag 51, a processing instruction 51", anything else 50.
use Rattle.std.specs.Prelude.{◌≡◌, ◌↔◌, Bool, cond, ℕ, ◌+◌, ◌-◌, ◌<◌, ◌≤◌, leb, eqb, drop, get_or, Option, Some, None}
use Rattle.std.proofs.Math.Path.{refl}
use Rattle.std.proofs.Math.Bool.{true, false}
use mathlib.Core.List.{List, [], ◌∷◌}
use Rattle.std.proofs.Common.{arith}
use Rattle.std.proofs.Math.ListN.{length}
use borrow.Author.Tests.{eq-eqb, ne_eqb, eqb-true, eqb-false, le-leb, lt-leb, leb-true, leb-false}
use Rattle.markup.specs.rule.Bytes.{stands}
use Rattle.markup.specs.rule.Reference.{reference_of}
use Rattle.markup.specs.declared.Skip.{Skip}
use Rattle.markup.specs.declared.Skip.TheVariants as skip
use Rattle.angles.specs.rule.Angle.{angle_of, end_of}
use Rattle.angles.specs.declared.Angle.{Angle}
use Rattle.angles.specs.declared.Angle.TheVariants as angle
use Rattle.tags.specs.rule.Tag.{is_named}
use Rattle.pairs.specs.declared.Stand.TheVariants as stand
use Rattle.pairs.specs.rule.Stand.{on_text_char, text_stand, stand_angle, stand_at, stand_end, shut_of}
use Rattle.pairs.proofs.Stands.{angle_start, angle_close, name_long}
use Rattle.tokens.specs.declared.Fault.{Fault}
use Rattle.tokens.specs.rule.Gap.{fault}
use Rattle.reading.specs.rule.Result.{Result, Is, Not, give, bind}
use Rattle.bridge.specs.Lowest.{never}
use Rattle.xml_reading.specs.rule.Word.{SSS}
use Rattle.xml_reading.specs.rule.Open.{misplaced}
use Rattle.xml_reading.specs.rule.Sheet.{no_root, rooted}
use Rattle.xml_refusals.specs.Opens.{Opens, Misplaced, opens_start, misplaced_is, misplaced_seen}

module _ (bad : Bool) (d : List ℕ) (k : ℕ) where
  -- a < stands there
  pub record Less : Type 0 where
    pub inside : k < length d
    pub less : get_or d k 0 ≡ 60

  pub data NoRoot : Fault → Type 0 where
    -- the file's end; a text
    over : length d ≤ k → NoRoot (fault 50 k)
    text : k < length d → (get_or d k 0 ≡ 60 → ⊥) → NoRoot (fault 50 k)
    -- <?, or <![CDATA[; a < with no name behind it
    instruction : Less → angle_of bad d k ≡ angle.Foreign → stands (60 ∷ 63 ∷ []) (drop k d) ≡ true → NoRoot (fault 51 k)
    cdata : Less → angle_of bad d k ≡ angle.Foreign → stands (60 ∷ 63 ∷ []) (drop k d) ≡ false → NoRoot (fault 50 k)
    broken : {q : ℕ} → Less → angle_of bad d k ≡ angle.Broken q → NoRoot (fault 50 q)
    -- an end tag, whole or broken
    end_tag : {e m : ℕ} → Less → angle_of bad d k ≡ angle.Close e → end_of bad d k e ≡ skip.Past m → NoRoot (fault 50 k)
    broken_end : {e q : ℕ} → Less → angle_of bad d k ≡ angle.Close e → end_of bad d k e ≡ skip.Broken q → NoRoot (fault 50 q)
    -- another start tag
    other : {e : ℕ} {f : Fault} → Opens d k e → is_named d (k + 1) e SSS ≡ false → Misplaced bad d k e f → NoRoot f

  moved : {f g : Fault} → f ≡ g → NoRoot f → NoRoot g
  moved e y = rw (← e) y

  -- a name has bytes
  some_name : (n e : ℕ) → n < e → is_named d n e [] ≡ false
  unfolding is_named
  some_name n e h = rw (ne_eqb (e - n) 0 (λ z. omega arith))

  close_named : (e : ℕ) → angle_of bad d k ≡ angle.Close e → is_named d (k + 2) e [] ≡ false
  close_named e a = some_name (k + 2) e (name_long (angle_close bad d k e a).1).0

  module _ {f : Fault} (l : Less) where
    start_seen : (e : ℕ) → angle_of bad d k ≡ angle.Start e → rooted bad d (stand.Start k e) ≡ Not f → NoRoot f
    start_seen e a z = by (is_named d (k + 1) e SSS) refl z where
      opens : Opens d k e
      opens = record { inside = l.inside; less = l.less; name = angle_start bad d k e a }

      by : (b : Bool) → is_named d (k + 1) e SSS ≡ b → cond b (Is k e) (misplaced bad d k e) ≡ Not f → NoRoot f
      by true i z = never cc
      by false i z = other opens i (misplaced_seen bad d {A = ℕ} give (bound (misplaced bad d k e) z)) where
        bound : (r : Result ℕ) → r ≡ Not f → bind r give ≡ Not f
        bound (Is x n) z = z
        bound (Not g) z = z

    end_seen : (e : ℕ) → angle_of bad d k ≡ angle.Close e → no_root bad d (shut_of bad d k e []) ≡ Not f → NoRoot f
    unfolding shut_of
    end_seen e a z = by (end_of bad d k e) refl z where
      named : (m : ℕ) → end_of bad d k e ≡ skip.Past m → (b : Bool) → is_named d (k + 2) e [] ≡ b
          → no_root bad d (cond b (skip.Past m) (skip.Broken k)) ≡ Not f → NoRoot f
      named m o true i z = let j = close_named e a in never cc
      named m o false i z = let j : fault 50 k ≡ f = cc in moved j (end_tag l a o)

      by : (r : Skip) → end_of bad d k e ≡ r → no_root bad d (stand_end d k e [] r) ≡ Not f → NoRoot f
      by (skip.Past m) o z = named m o (is_named d (k + 2) e []) refl z
      by (skip.Broken q) o z = let j : fault 50 q ≡ f = cc in moved j (broken_end l a o)

    angle_seen : (a : Angle) → angle_of bad d k ≡ a → rooted bad d (stand_angle k a) ≡ Not f → NoRoot f
    angle_seen (angle.Start e) a z = start_seen e a z
    angle_seen (angle.Close e) a z = end_seen e a z
    angle_seen angle.Foreign a z = by (stands (60 ∷ 63 ∷ []) (drop k d)) refl z where
      by : (b : Bool) → stands (60 ∷ 63 ∷ []) (drop k d) ≡ b → ◌≡◌ {A = Result ℕ} (Not (fault (cond b 51 50) k)) (Not f) → NoRoot f
      by true i z = let j : fault 51 k ≡ f = cc in moved j (instruction l a i)
      by false i z = let j : fault 50 k ≡ f = cc in moved j (cdata l a i)
    angle_seen (angle.Broken q) a z = let j : fault 50 q ≡ f = cc in moved j (broken l a)

  text_refused : rooted bad d (text_stand d k) ≡ Not (fault 50 k)
  unfolding text_stand
  text_refused = by (eqb (get_or d k 0) 38) (reference_of k (drop (k + 1) d)) where
    by : (b : Bool) (c : Option (ℕ × ℕ)) → rooted bad d (cond b (on_text_char k c) (stand.Text k)) ≡ Not (fault 50 k)
    by true (Some (x, n)) = refl
    by true None = refl
    by false c = refl

  seen : {f : Fault} → rooted bad d (stand_at bad d k) ≡ Not f → NoRoot f
  unfolding stand_at
  seen {f} z = by (leb (length d) k) (eqb (get_or d k 0) 60) refl refl z where
    texts : k < length d → (get_or d k 0 ≡ 60 → ⊥) → (r : Result ℕ) → r ≡ Not (fault 50 k) → r ≡ Not f → NoRoot f
    texts h i r e z = let j : fault 50 k ≡ f = cc in moved j (text h i)

    by : (a b : Bool) → leb (length d) k ≡ a → eqb (get_or d k 0) 60 ≡ b
        → rooted bad d (cond a (stand.Broken k) (cond b (stand_angle k (angle_of bad d k)) (text_stand d k))) ≡ Not f → NoRoot f
    by true b h i z = let j : fault 50 k ≡ f = cc in moved j (over (leb-true (length d) k h))
    by false true h i z =
        angle_seen (record { inside = leb-false (length d) k h; less = eqb-true (get_or d k 0) 60 i }) (angle_of bad d k) refl z
    by false false h i z =
        texts (leb-false (length d) k h) (eqb-false (get_or d k 0) 60 i) (rooted bad d (text_stand d k)) text_refused z

  halted : {f : Fault} → NoRoot f → rooted bad d (stand_at bad d k) ≡ Not f
  unfolding stand_at shut_of
  halted (over h) = rw (le-leb (length d) k h)
  halted (text h i) = rw (lt-leb (length d) k h, ne_eqb (get_or d k 0) 60 i) text_refused
  halted (instruction l a i) = rw (lt-leb (length d) k l.inside, eq-eqb (get_or d k 0) 60 l.less, a, i)
  halted (cdata l a i) = rw (lt-leb (length d) k l.inside, eq-eqb (get_or d k 0) 60 l.less, a, i)
  halted (broken l a) = rw (lt-leb (length d) k l.inside, eq-eqb (get_or d k 0) 60 l.less, a)
  halted (end_tag {e} l a o) =
      rw (lt-leb (length d) k l.inside, eq-eqb (get_or d k 0) 60 l.less, a, o, close_named e a)
  halted (broken_end l a o) = rw (lt-leb (length d) k l.inside, eq-eqb (get_or d k 0) 60 l.less, a, o)
  halted (other o i m) =
      rw (
        lt-leb (length d) k o.inside,
        eq-eqb (get_or d k 0) 60 o.less,
        opens_start bad d o,
        i,
        misplaced_is bad d {A = ℕ} m,
      )

  -- NO ROOT: it is refused with f exactly so
  pub no_root_exactly : (f : Fault) → (rooted bad d (stand_at bad d k) ≡ Not f) ↔ NoRoot f
  no_root_exactly f = (seen, halted)
