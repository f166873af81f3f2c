-- What follows from rule/Sent.antt, and what the code keeps.
use Rattle.std.specs.Prelude.{◌≡◌, refl, List, [], ◌∷◌, ◌++◌, ℕ, suc, ◌+◌, ◌≤◌, ◌<◌, length, set, drop}
use Rattle.std.proofs.Common.{sym, ◌∙◌, ⊎_elim, arith, length-append, length-set}
use Rattle.std.proofs.lemmas.List.Edits.{sets, sets-eq}
use Rattle.std.proofs.Math.Seq.{length-sets}
use Rattle.below.specs.Below.{lt_or_le}
use Rattle.sink.specs.rule.Sent.{Sent}

-- ---- stores one behind the other
module _ {A : Type 0} where
  pub sets_append : (l : List A) (k : ℕ) (a b : List A) → sets l k (a ++ b) ≡ sets (sets l k a) (k + length a) b
  sets_append l k [] b = let e : k + 0 ≡ k = omega arith in rw e
  sets_append l k (x ∷ a) b = let e : k + suc (length a) ≡ suc k + length a = omega arith in rw e (sets_append (set l k x) (suc k) a b)

  pub sets_front : (l new : List A) → length new ≤ length l → sets l 0 new ≡ new ++ drop (length new) l
  sets_front l new h = let e : 0 + length new ≡ length new = omega arith in rw e at (sets-eq new l 0 (rw e h))

-- ---- laws of what is sent
pub nothing_sent : (bound : ℕ) (out : List ℕ) (at : ℕ) → Sent bound out at [] out at
nothing_sent bound out at = record { room = refl; within = λ h. omega arith; beyond = λ h. omega arith; stored = λ h g. refl }

pub sent_as : {bound : ℕ} {out : List ℕ} {at : ℕ} {s u out' : List ℕ} {r : ℕ} → Sent bound out at s out' r → s ≡ u
    → Sent bound out at u out' r
sent_as a e = rw e at a

-- bytes behind bytes
module _ {bound : ℕ} {out : List ℕ} {at : ℕ} {s out' : List ℕ} {r : ℕ} (a : Sent bound out at s out' r) where
  pub then : {u out'' : List ℕ} {q : ℕ} → Sent bound out' r u out'' q → Sent bound out at (s ++ u) out'' q
  then {u} {out''} {q} b = record {
    room = b.room ∙ a.room;
    within = λ h. let l = length-append s u in let x = a.within (omega arith) in let y = b.within (omega arith) in omega arith;
    beyond = λ h. let l = length-append s u in ⊎_elim
        (λ k. let x = a.within k in b.beyond (omega arith))
        (λ k. let x = a.beyond k in b.beyond (omega arith))
        (lt_or_le (at + length s) bound);
    stored = λ h g.
        let l = length-append s u in
        let x = a.within (omega arith) in
        let m = a.room in
        b.stored (omega arith) (omega arith) ∙ rw (x, a.stored (omega arith) g) (sym (sets_append out at s u));
  }

-- ---- in a loop: whoever sends what is left has sent the whole
pub record Owed (bound : ℕ) (out₀ : List ℕ) (at₀ : ℕ) (whole out : List ℕ) (at : ℕ) (left : List ℕ) : Type 0 where
  pub pays : {out' : List ℕ} {r : ℕ} → Sent bound out at left out' r → Sent bound out₀ at₀ whole out' r
  pub same_room : length out ≡ length out₀

pub all_owed : (bound : ℕ) (out : List ℕ) (at : ℕ) {s u : List ℕ} → s ≡ u → Owed bound out at s out at u
all_owed bound out at e = record { pays = λ a. sent_as a (sym e); same_room = refl }

module _ {bound : ℕ} {out₀ : List ℕ} {at₀ : ℕ} {whole out : List ℕ} {at : ℕ} {left : List ℕ} (o : Owed bound out₀ at₀ whole out at left)
  where
    -- some of it is sent
    pub less_owed : {s u out' : List ℕ} {r : ℕ} → left ≡ s ++ u → Sent bound out at s out' r → Owed bound out₀ at₀ whole out' r u
    less_owed e a = record { pays = λ b. o.pays (sent_as (then a b) (sym e)); same_room = a.room ∙ o.same_room }

    -- nothing is left
    pub none_owed : left ≡ [] → Sent bound out₀ at₀ whole out at
    none_owed e = o.pays (sent_as (nothing_sent bound out at) (sym e))

    pub owed_as : {u : List ℕ} → left ≡ u → Owed bound out₀ at₀ whole out at u
    owed_as e = rw e at o

-- one byte
pub byte_stored : (bound : ℕ) (out : List ℕ) (at b : ℕ) → at < length out → at < bound → Sent bound out at (b ∷ []) (set out at b) (at + 1)
byte_stored bound out at b h g = record {
  room = length-set out at b;
  within = λ k. omega arith;
  beyond = λ k. omega arith;
  stored = λ k m. refl;
}

pub byte_counted : (bound : ℕ) (out : List ℕ) (at b : ℕ) → length out ≤ at → at < bound → Sent bound out at (b ∷ []) out (at + 1)
byte_counted bound out at b h g = record {
  room = refl;
  within = λ k. omega arith;
  beyond = λ k. omega arith;
  stored = λ k m. absurd (omega arith);
}

pub byte_lost : (bound : ℕ) (out : List ℕ) (at b : ℕ) → bound ≤ at → Sent bound out at (b ∷ []) out at
byte_lost bound out at b g = record {
  room = refl;
  within = λ k. absurd (omega arith);
  beyond = λ k. g;
  stored = λ k m. absurd (omega arith);
}

-- bytes at once
pub bytes_stored : (bound : ℕ) (out : List ℕ) (at : ℕ) (s : List ℕ) → at + length s < bound
    → Sent bound out at s (sets out at s) (at + length s)
bytes_stored bound out at s g = record {
  room = length-sets out at s;
  within = λ k. refl;
  beyond = λ k. k;
  stored = λ k m. refl;
}

pub bytes_counted : (bound : ℕ) (out : List ℕ) (at : ℕ) (s : List ℕ) → length out < at + length s → Sent bound out at s out (at + length s)
bytes_counted bound out at s h = record {
  room = refl;
  within = λ k. refl;
  beyond = λ k. k;
  stored = λ k m. absurd (omega arith);
}

pub bytes_lost : (bound : ℕ) (out : List ℕ) (at : ℕ) (s : List ℕ) (r : ℕ) → bound ≤ at + length s → bound ≤ r → Sent bound out at s out r
bytes_lost bound out at s r h g = record {
  room = refl;
  within = λ k. absurd (omega arith);
  beyond = λ k. g;
  stored = λ k m. absurd (omega arith);
}
