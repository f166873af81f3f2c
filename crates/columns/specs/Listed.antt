-- A set as a list of numbers, in whatever order, some of them twice: its entries go by which numbers stand in the list. Zeros there don't
-- count, since no category is 0.
-- Assumes nothing.
use Rattle.std.specs.Prelude.{◌≡◌, Bool, ◌||◌, List, [], ◌∷◌, ℕ, zero, suc, ◌+◌, ◌≤◌, ◌<◌, eqb, ℤ, pos, get_or, set, take, drop, replicate}
use Rattle.std.proofs.Math.Path.{refl}
use Rattle.std.proofs.Common.{sym, ap, ◌∙◌, ⊎_elim, arith, ne_eqb, eq-eqb, le-leb, get_or-set_same, get_or-set_other}
use Rattle.std.proofs.Math.Bool.{true, false, cond}
use Rattle.std.proofs.Math.ListN.{length}
use Rattle.below.specs.rule.Below.{any_below}
use Rattle.below.specs.Below.{holds_not, any_next, lt_or_le}
use Rattle.cells.specs.rule.Cell.{cell, count_of, eq_z}
use Rattle.fields.specs.rule.Number.{all_spaces}
use Rattle.fields.specs.rule.Field.{Field, holds, illegal, missing, number, members, text, truth, is_member}
use Rattle.fields.specs.rule.Field.{all_entries, passing, spread_set, spread_field}
use Rattle.sets.specs.rule.Sets.{is_illegal, filled_of}
use Rattle.sets.specs.Marks.{flag}
use Rattle.sets.proofs.MarkLaws.{flag_back}
use Rattle.few_codes.specs.Few.{is_among, HeldAll, members_are}
use Rattle.readings.specs.Answer.{answer_of, RowRead}
use Rattle.readings.specs.declared.Answer.{Answer}
use Rattle.readings.specs.declared.Answer.TheVariants.{Missing, Number, Set, Text, Truth}
use Rattle.readings.specs.declared.Answer.TheVariants.{BadTable, NoRow, ShortRecord, Illegal, ShortList}
use Rattle.record_values.specs.rule.Record.{members_of}
use Rattle.record_values.specs.Rows.{members_in}
use Rattle.record_values.specs.Room.{read_members, read_list}
use Rattle.matrix.specs.declared.Entry.TheVariants.{Absent, Scaled}
use Rattle.columns.specs.rule.Columns.{member_entry}
use Rattle.columns.specs.Marked.{is_set, marked_entry}
use Rattle.columns.specs.Members.{any_front, any_member}
use Rattle.columns.specs.Ones.{in_list}

-- the list's first n numbers are those of a field's set, if there is one
pub record Lists (f : Field) (l : List ℤ) (n : ℕ) (there : Bool) : Type 0 where
  pub few : n ≤ length l
  pub entry : (c : ℕ) → 1 ≤ c → c < 10000 → marked_entry there (flag (in_list l n c)) ≡ member_entry c f
  pub none : there ≡ false → n ≡ 0

-- they are the members of a spread of n subfields
abbrev pub HeldIn : ℕ → ℕ → List ℕ → List ℤ → Type 0
HeldIn w n s l = (x : ℕ) → 1 ≤ x → x < 10000 → in_list l n x ≡ is_member (spread_set w n s) (pos x)

-- the list's first numbers are those of a room
abbrev pub Copied : List ℕ → List ℤ → Type 0
Copied room l = (x : ℕ) → in_list l (length room) x ≡ is_among x room

-- ---- a set that was read
no_set : (a : Answer) → is_set a ≡ false → members_in a ≡ 0
unfolding is_set members_in
no_set Missing e = refl
no_set (Number z) e = refl
no_set (Set n) e = holds_not refl e
no_set (Text p n) e = refl
no_set (Truth b) e = refl
no_set BadTable e = refl
no_set NoRow e = refl
no_set ShortRecord e = refl
no_set Illegal e = refl
no_set ShortList e = refl

module _ {p : ℕ} {f : Field} {list list' : List ℤ} {a : Answer} (q : RowRead p f list list' a) (room : length (members_of f) ≤ length list)
    {n : ℕ} (en : n ≡ members_in a) {there : Bool} (et : there ≡ is_set a) where
  in_members : (c : ℕ) → in_list list' n c ≡ is_member (members_of f) (pos c)
  unfolding filled_of
  in_members c = rw (en, read_members q room, read_list q room) (any_member (members_of f) (drop (length (members_of f)) list) (pos c))

  entry_read : (c : ℕ) → marked_entry there (flag (in_list list' n c)) ≡ member_entry c f
  unfolding marked_entry is_set answer_of member_entry members_of
  entry_read c = rw (et, q.answer, in_members c, flag_back (is_member (members_of f) (pos c))) (go f refl)
    where
      go : (g : Field) → f ≡ g
          → cond (is_set (answer_of p (length list) g)) (Scaled (cond (is_member (members_of g) (pos c)) (pos 1) (pos 0)) 1) Absent
          ≡ member_entry c g
      go (holds missing) e = refl
      go (holds (number z)) e = refl
      go (holds (members ms)) e =
          let h : length ms ≤ length list = rw e at room in
          rw (le-leb (length ms) (length list) h)
      go (holds (text s)) e = refl
      go (holds (truth b)) e = refl
      go illegal e = refl

  pub lists_read : length list' ≡ length list → Lists f list' n there
  lists_read e = record {
    few = omega (arith, en, read_members q room, room, e);
    entry = λ c h l. entry_read c;
    none = λ z. en ∙ no_set a (sym et ∙ z);
  }

-- ---- which numbers pass
member_below : (f : ℤ → Bool) (a k x : ℕ) → x < a → is_member (passing f a k) (pos x) ≡ false
unfolding is_member passing eq_z
member_below f a zero x h = refl
member_below f a (suc k) x h = go (f (pos a)) (member_below f (suc a) k x (omega arith))
  where
    go : (b : Bool) → is_member (passing f (suc a) k) (pos x) ≡ false
        → is_member (cond b (pos a ∷ passing f (suc a) k) (passing f (suc a) k)) (pos x) ≡ false
    go true e = rw (ne_eqb a x (λ q. omega arith)) e
    go false e = e

pub member_passing : (f : ℤ → Bool) (a k x : ℕ) → a ≤ x → (f (pos x) ≡ true → x < a + k) → is_member (passing f a k) (pos x) ≡ f (pos x)
unfolding is_member passing eq_z
member_passing f a zero x h l = go (f (pos x)) refl
  where
    go : (b : Bool) → f (pos x) ≡ b → false ≡ b
    go true e = absurd (omega (arith, l e))
    go false e = refl
member_passing f a (suc k) x h l =
    ⊎_elim (λ g. later g (member_passing f (suc a) k x (omega arith) (λ e. omega (arith, l e)))) here (lt_or_le a x)
  where
    later : a < x → is_member (passing f (suc a) k) (pos x) ≡ f (pos x) → is_member (passing f a (suc k)) (pos x) ≡ f (pos x)
    later g e = go (f (pos a))
      where
        go : (b : Bool) → is_member (cond b (pos a ∷ passing f (suc a) k) (passing f (suc a) k)) (pos x) ≡ f (pos x)
        go true = rw (ne_eqb a x (λ q. omega arith)) e
        go false = e

    here : x ≤ a → is_member (passing f a (suc k)) (pos x) ≡ f (pos x)
    here g = go (f (pos a)) refl
      where
        same : a ≡ x
        same = omega arith

        go : (b : Bool) → f (pos a) ≡ b → is_member (cond b (pos a ∷ passing f (suc a) k) (passing f (suc a) k)) (pos x) ≡ f (pos x)
        go true e = rw (eq-eqb a x same) (sym (ap (λ (y : ℕ). f (pos y)) (sym same) ∙ e))
        go false e = member_below f (suc a) k x (omega arith) ∙ sym (ap (λ (y : ℕ). f (pos y)) (sym same) ∙ e)

-- ---- a room copied into the list
in_set : (l : List ℤ) (i : ℕ) (z : ℤ) (x k : ℕ) → k ≤ i → in_list (set l i z) k x ≡ in_list l k x
unfolding any_below
in_set l i z x zero h = refl
in_set l i z x (suc k) h = rw (in_set l i z x k (omega arith), get_or-set_other l i k z (pos 0) (λ e. omega arith))

-- one more of its numbers
pub copied_more : (room : List ℕ) (l : List ℤ) (k x : ℕ) {z : ℤ} → z ≡ pos (get_or room k 0) → k < length l
    → in_list l k x ≡ any_below k (λ j. eqb (get_or room j 0) x) → in_list (set l k z) (k + 1) x
    ≡ any_below (k + 1) (λ j. eqb (get_or room j 0) x)
unfolding eq_z
copied_more room l k x {z} is h e =
    any_next (λ j. eq_z (cell (set l k z) j) (pos x)) k
    ∙ rw (in_set l k z x k (omega arith), get_or-set_same l k z (pos 0) h, is, e)
    (sym (any_next (λ j. eqb (get_or room j 0) x) k))

any_among : (room : List ℕ) (x : ℕ) → any_below (length room) (λ j. eqb (get_or room j 0) x) ≡ is_among x room
unfolding is_among any_below
any_among [] x = refl
any_among (y ∷ room) x =
    any_front (length room) (λ j. eqb (get_or (y ∷ room) j 0) x) ∙ ap (λ (b : Bool). eqb y x || b) (any_among room x)

pub copied_all : (room : List ℕ) (l : List ℤ) (k : ℕ) → ((x : ℕ) → in_list l k x ≡ any_below k (λ j. eqb (get_or room j 0) x))
    → k ≡ length room → Copied room l
copied_all room l k f e x = rw (← e) (f x ∙ rw e (any_among room x))

-- a part of a room of zeros
pub zero_part : (m n i : ℕ) → ◌≡◌ {A = ℕ} (get_or (take m (replicate n 0)) i 0) 0
zero_part zero n i = refl
zero_part (suc m) zero i = refl
zero_part (suc m) (suc n) zero = refl
zero_part (suc m) (suc n) (suc i) = zero_part m n i

-- what was gathered in a room are the members
pub held_in : (w n : ℕ) (s room : List ℕ) → w ≤ 4 → HeldAll w n s room → (l : List ℤ) → length room ≡ n → Copied room l → HeldIn w n s l
unfolding count_of
held_in w n s room few all l e copied x h b =
    rw (← e) (copied x)
    ∙ sym (ap (λ (ms : List ℤ). is_member ms (pos x)) (members_are w n s room few all)
    ∙ member_passing (λ y. is_among (count_of y) room) 1 65534 x h (λ q. omega arith))

-- ---- a spread that is legal
module _ (ok : ℤ → Bool) (w n : ℕ) (s : List ℕ) where
  pub lists_blank : all_spaces s ≡ true → (l : List ℤ) → Lists (spread_field ok w n s) l 0 false
  unfolding spread_field marked_entry member_entry
  lists_blank e l = record { few = omega arith; entry = λ c h b. rw e; none = λ z. refl }

  pub lists_fields : is_illegal (spread_field ok w n s) ≡ false → all_spaces s ≡ false → {l : List ℤ} → n ≤ length l → HeldIn w n s l
      → Lists (spread_field ok w n s) l n true
  unfolding spread_field marked_entry member_entry is_illegal
  lists_fields good e {l} few held = record {
    few = few;
    entry = λ c h b. rw (held c h b, flag_back (is_member (spread_set w n s) (pos c)), e) (go c (all_entries ok w n s) (rw e at good));
    none = λ z. holds_not refl z;
  }
    where
      go : (c : ℕ) (b : Bool) → is_illegal (cond b (holds (members (spread_set w n s))) illegal) ≡ false
          → Scaled (cond (is_member (spread_set w n s) (pos c)) (pos 1) (pos 0)) 1
          ≡ member_entry c (cond b (holds (members (spread_set w n s))) illegal)
      go c true g = refl
      go c false g = holds_not refl g
