-- x* up to the end tag: the rounds of the reader of the table are the rule's turns.
use Rattle.std.specs.Prelude.{◌≡◌, Bool, true, false, cond, List}
use Rattle.std.proofs.Math.Path.{refl, sym}
use Rattle.std.proofs.Common.{◌∙◌}
use Prim.Native.Nat.{ℕ, zero, suc, ◌+◌}
use Rattle.scan.specs.rule.Loop.{Next, Again, Done}
use Rattle.tags.specs.rule.Tag.{is_named}
use Rattle.pairs.specs.rule.Stand.{bare_of}
use Rattle.reading.specs.rule.Result.{Result, Is, Not, Reader, ◌>>=◌, ◌>>◌, give, repeat, bind, turn}
use Rattle.xml_reading.specs.rule.Open.{Open, start, shut, within_element, due, over, on_bare}
use Rattle.xml_reading.specs.rule.Open as stands
use Rattle.xml_grammar.specs.Behind.{bare_behind}

abbrev pub onward : {S A T : Type 0} → (S → Reader T) → (A → Reader T) → Next S A → Reader T
onward K F (Again s) = K s
onward K F (Done a) = F a

-- one turn, and the others
pub repeat_by : {S A T : Type 0} (f : ℕ) (go : S → Reader (Next S A)) (s : S) (n : ℕ) (F : A → Reader T)
    → bind (repeat (suc f) go s n) F ≡ bind (go s n) (onward (λ s n. bind (repeat f go s n) F) F)
unfolding repeat
repeat_by {S} {A} {T} f go s n F = by (go s n) where
  by : (r : Result (Next S A)) → bind (bind r (turn (repeat f go))) F ≡ bind r (onward (λ s n. bind (repeat f go s n) F) F)
  by (Is (Again t) m) = refl
  by (Is (Done a) m) = refl
  by (Not x) = refl

module _ (bad : Bool) (d : List ℕ) {S B : Type 0} (hold : B → S) where
  -- behind the last one stands the end tag
  abbrev pub ending : (S × Open) → Reader S
  ending t = over bad d t.1 >> give t.0

  abbrev pub holding : B → Reader S
  holding b = give (hold b)

  -- rounds of which each is a turn of the rule are its turns
  pub rounds_are : (round : S → Reader (Next S (S × Open))) (another : B → Reader (Next B B))
      → ((b : B) (n : ℕ) (K : S → Reader S) (L : B → Reader S) → ((c : B) (m : ℕ) → K (hold c) m ≡ L c m)
      → bind (round (hold b) n) (onward K ending) ≡ bind (another b n) (onward L holding))
      → (f : ℕ) (b : B) (n : ℕ) → bind (repeat f round (hold b) n) ending ≡ bind (repeat f another b n) holding
  unfolding repeat
  rounds_are round another e zero b n = refl
  rounds_are round another e (suc f) b n =
      repeat_by f round (hold b) n ending
      ∙ (e b n (λ s m. bind (repeat f round s m) ending) (λ c m. bind (repeat f another c m) holding)
      (λ c m. rounds_are round another e f c m)
      ∙ sym (repeat_by f another b n holding))

  -- a round is a turn, where the element in it is read alike
  module _ (w around : List ℕ) (b : B) (c : ℕ → Reader S) (k : ℕ → Reader (Next B B)) (K : S → Reader S) (L : B → Reader S)
      (e : (p n : ℕ) → bind (c p n) K ≡ bind (k p n) (onward L holding)) where
    abbrev pub again : S → Reader (Next S (S × Open))
    again s = give (Again s)

    abbrev pub round_on : Open → Reader (Next S (S × Open))
    round_on o = stands.either_element bad d w o (λ p. c p >>= again) (give (Done (hold b, o)))

    read : (r : Result S) → bind (bind r again) (onward K ending) ≡ bind r K
    read (Is s m) = refl
    read (Not x) = refl

    on_start : (p n : ℕ) (x : Bool)
        → bind (cond x (bind (c p n) again) (Is (Done (hold b, start p)) n)) (onward K ending)
        ≡ bind (cond x (k p n) (on_bare bad d p (bare_of bad d p n))) (onward L holding)
    on_start p n true = read (c p n) ∙ e p n
    on_start p n false = bare_behind bad d p (bare_of bad d p n) (λ u. give (hold b)) (onward L holding)

    -- `turnOn` is what the rule does where it is known what stands there
    pub turn_is : (turnOn : Open → Reader (Next B B)) → ((p n : ℕ) → turnOn (start p) n ≡ due bad d w (start p) k n)
        → ((p n : ℕ) → turnOn (shut p) n ≡ Is (Done b) n) → (n : ℕ)
        → bind (bind (within_element bad d around n) round_on) (onward K ending)
        ≡ bind (bind (within_element bad d around n) turnOn) (onward L holding)
    turn_is turnOn i j n = by (within_element bad d around n) where
      by : (r : Result Open) → bind (bind r round_on) (onward K ending) ≡ bind (bind r turnOn) (onward L holding)
      by (Is (start p) m) = rw (i p m) (on_start p m (is_named d (p + 1) m w))
      by (Is (shut p) m) = rw (j p m)
      by (Not x) = refl
