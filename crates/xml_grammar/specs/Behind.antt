-- Readers one behind the other, and what each hands on: the laws by which the reader of the table and the rule are brought together, piece
-- by piece. `g` or `y` is what the rule's answer is turned into.
use Rattle.std.specs.Prelude.{◌≡◌, Bool, List, ℕ, ◌+◌}
use Rattle.std.proofs.Math.Path.{refl}
use Rattle.std.proofs.Math.Bool.{true, false, cond}
use Rattle.tags.specs.declared.Held.{Held}
use Rattle.tags.specs.declared.Tag.{Tag}
use Rattle.tags.specs.declared.Tag.TheVariants as tag
use Rattle.tags.specs.rule.Tag.{is_named}
use Rattle.pairs.specs.rule.Stand.{bare_of}
use Rattle.tokens.specs.declared.Fault.{Fault}
use Rattle.tokens.specs.rule.Gap.{fault}
use Rattle.reading.specs.rule.Result.{Result, Is, Not, Reader, give, bind}
use Rattle.reading.specs.rule.Least.{Charge, named, Finding, clean, first, least, found, judged}
use Rattle.xml_reading.specs.rule.Open.{Open, start, shut, due, on_tag, on_bare, entered}
use Rattle.xml_reading.specs.rule.Open as stands

-- ---- one behind the other
pub map_behind : {A B C : Type 0} (r : Result A) (k : A → Reader B) (c : A → Reader C) (g : B → Reader C)
    → ((a : A) (n : ℕ) → c a n ≡ bind (k a n) g) → bind r c ≡ bind (bind r k) g
map_behind (Is a n) k c g e = e a n
map_behind (Not f) k c g e = refl

pub same_behind : {A B : Type 0} (r : Result A) (k c : A → Reader B) → ((a : A) (n : ℕ) → k a n ≡ c a n) → bind r k ≡ bind r c
same_behind (Is a n) k c e = e a n
same_behind (Not f) k c e = refl

-- both are read on, to answers of one kind
pub both_behind : {A B C E : Type 0} (r : Result A) (k : A → Reader B) (c : A → Reader C) (z : B → Reader E) (y : C → Reader E)
    → ((a : A) (n : ℕ) → bind (k a n) z ≡ bind (c a n) y) → bind (bind r k) z ≡ bind (bind r c) y
both_behind (Is a n) k c z y e = e a n
both_behind (Not f) k c z y e = refl

-- the first of three first
pub regroup : {A B C : Type 0} (r : Result A) (k : A → Reader B) (g : B → Reader C) → bind (bind r k) g ≡ bind r λ a n. bind (k a n) g
regroup (Is a n) k g = refl
regroup (Not f) k g = refl

-- three of the one, two of the other
pub three_behind : {A B C D E : Type 0} (r : Result A) (k : A → Reader B) (c : B → Reader C) (z : C → Reader E) (h : A → Reader D)
    (y : D → Reader E) → ((a : A) (n : ℕ) → bind (bind (k a n) c) z ≡ bind (h a n) y) → bind (bind (bind r k) c) z ≡ bind (bind r h) y
three_behind (Is a n) k c z h y e = e a n
three_behind (Not f) k c z h y e = refl

-- ---- judged: what it says when nothing is at fault is another matter
pub judged_as : {A B C : Type 0} (l : List Charge) (a : A) (b : B) (n : ℕ) (k : A → Reader C) (g : B → Reader C) → k a n ≡ g b n
    → bind (judged l a n) k ≡ bind (judged l b n) g
unfolding judged
judged_as {A} {B} {C} l a b n k g e = by (least (named l)) where
  by : (x : Finding) → bind (found a n x) k ≡ bind (found b n x) g
  by clean = e
  by (first f) = refl

pub judged_map : {A B : Type 0} (l : List Charge) (a : A) (f : A → B) (n : ℕ) → judged l (f a) n ≡ bind (judged l a n) λ a. give (f a)
unfolding judged
judged_map {A} {B} l a f n = by (least (named l)) where
  by : (x : Finding) → found (f a) n x ≡ bind (found a n x) λ a. give (f a)
  by clean = refl
  by (first f) = refl

-- a text that is asked for a form: y has it, where it is whole (x)
pub fit_behind : {A B : Type 0} (x y : Bool) (l k : List Charge) (a : A) (f : Fault) (m : ℕ) (g : A → Reader B)
    → cond x (cond y (bind (judged l (tt {0}) m) λ u. g a) (Not f)) (bind (judged k (tt {0}) m) λ u. g a)
    ≡ bind (cond x (cond y (judged l a m) (Not f)) (judged k a m)) g
fit_behind true true l k a f m g = judged_as l (tt {0}) a m (λ u. g a) g refl
fit_behind true false l k a f m g = refl
fit_behind false y l k a f m g = judged_as k (tt {0}) a m (λ u. g a) g refl

module _ (bad : Bool) (d : List ℕ) where
  -- ---- a start tag
  pub entered_as : {A B C : Type 0} (l : List Charge) (a : A) (b : B) (empty : Bool) (q n : ℕ) (k : A → Reader C) (g : B → Reader C)
      → ((m : ℕ) → k a m ≡ g b m) → bind (entered bad d l a empty q n) k ≡ bind (entered bad d l b empty q n) g
  unfolding judged
  entered_as {A} {B} {C} l a b empty q n k g e = by (least (named l)) empty where
    by : (x : Finding) (empty : Bool)
        → bind (bind (found a n x) λ a m. cond empty (Not (fault 2 q)) (Is a m)) k
        ≡ bind (bind (found b n x) λ b m. cond empty (Not (fault 2 q)) (Is b m)) g
    by clean true = refl
    by clean false = e n
    by (first f) empty = refl

  pub on_tag_lem : {A B : Type 0} (t : Tag) (k : Held → Bool → ℕ → Reader A) (c : Held → Bool → ℕ → Reader B) (g : A → Reader B)
      → ((h : Held) (empty : Bool) (q n : ℕ) → c h empty q n ≡ bind (k h empty q n) g) → on_tag bad d t c ≡ bind (on_tag bad d t k) g
  on_tag_lem (tag.Read h empty q n) k c g e = e h empty q n
  on_tag_lem (tag.Fault x p) k c g e = refl

  -- ---- what stands there
  pub bare_behind : {A B C : Type 0} (p : ℕ) (t : Tag) (k : A → Reader C) (g : B → Reader C)
      → bind (on_bare bad d {A = A} p t) k ≡ bind (on_bare bad d {A = B} p t) g
  bare_behind p (tag.Read h empty q n) k g = refl
  bare_behind p (tag.Fault x q) k g = refl

  -- an element that is due, read by c and by k, which says a: then f a is handed on
  pub due_behind : {A B E : Type 0} (w : List ℕ) (o : Open) (n : ℕ) (c : ℕ → Reader B) (k : ℕ → Reader A) (f : A → B) (z : B → Reader E)
      (y : A → Reader E) → ((p n : ℕ) → c p n ≡ bind (k p n) λ a. give (f a)) → ((a : A) (n : ℕ) → z (f a) n ≡ y a n)
      → bind (due bad d w o c n) z ≡ bind (due bad d w o k n) y
  due_behind {A} {B} w (start p) n c k f z y e h = by (is_named d (p + 1) n w) where
    read : (r : Result A) → bind (bind r λ a. give (f a)) z ≡ bind r y
    read (Is a m) = h a m
    read (Not x) = refl

    by : (x : Bool) → bind (cond x (c p n) (on_bare bad d p (bare_of bad d p n))) z
        ≡ bind (cond x (k p n) (on_bare bad d p (bare_of bad d p n))) y
    by true = rw (e p n) (read (k p n))
    by false = bare_behind p (bare_of bad d p n) z y
  due_behind w (shut p) n c k f z y e h = refl

  pub either_behind : {A B E : Type 0} (w : List ℕ) (o : Open) (n : ℕ) (c : ℕ → Reader B) (k : ℕ → Reader A) (q : Reader B) (r : Reader A)
      (z : B → Reader E) (y : A → Reader E) → ((p : ℕ) → bind (c p n) z ≡ bind (k p n) y) → bind (q n) z ≡ bind (r n) y
      → bind (stands.either_element bad d w o c q n) z ≡ bind (stands.either_element bad d w o k r n) y
  either_behind w (start p) n c k q r z y e h = by (is_named d (p + 1) n w) where
    by : (x : Bool) → bind (cond x (c p n) (q n)) z ≡ bind (cond x (k p n) (r n)) y
    by true = e p
    by false = h
  either_behind w (shut p) n c k q r z y e h = h

  -- an element that is due, and what is read on in each
  pub due_same : {A B E : Type 0} (w : List ℕ) (o : Open) (n : ℕ) (c : ℕ → Reader B) (k : ℕ → Reader A) (z : B → Reader E)
      (y : A → Reader E)
      → ((p : ℕ) → bind (c p n) z ≡ bind (k p n) y) → bind (due bad d w o c n) z ≡ bind (due bad d w o k n) y
  due_same w (start p) n c k z y e = by (is_named d (p + 1) n w) where
    by : (x : Bool) → bind (cond x (c p n) (on_bare bad d p (bare_of bad d p n))) z
        ≡ bind (cond x (k p n) (on_bare bad d p (bare_of bad d p n))) y
    by true = e p
    by false = bare_behind p (bare_of bad d p n) z y
  due_same w (shut p) n c k z y e = refl
