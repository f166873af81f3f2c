-- What is known of the statements of a variable that were read: its ident, type, position and texts lie within their limits.
use Rattle.std.specs.Prelude.{Ok, Err}
use mathlib.Core.Path.{◌≡◌, refl, sym, ◌∙◌}
use mathlib.Core.Bool.{Bool, true, false, cond}
use mathlib.Core.List.{List}
use Prim.Native.Nat.{ℕ, ◌≤◌, ◌<◌}
use native.Mathlib.Omega.{arith}
use borrow.Author.Tests.{eqb-false, ltb-false}
use lib.Dec.{eqb, ltb}
use lib.ListN.{length}
use Rattle.scan.specs.rule.Text.{text}
use Rattle.scan.specs.Number.{capped, digits_from}
use Rattle.scan.proofs.Runs.{digits_held}
use Rattle.scan.proofs.Orders.{run_value}
use Rattle.tokens.specs.declared.Choice.{Choice}
use Rattle.tokens.specs.declared.Choice.TheVariants.{Taken, Left}
use Rattle.tokens.specs.declared.Figures.{Figures}
use Rattle.tokens.specs.rule.Gap.{fault, OrFault}
use Rattle.tokens.specs.Gap.{gap_on}
use Rattle.statements.specs.declared.Typed.{Typed}
use Rattle.statements.specs.declared.Typed.TheVariants as typed
use Rattle.statements.specs.rule.Words.{SINGLE, MULTIPLE, QUANTITY, CHARACTER, LOGICAL, POSITION, TO}
use Rattle.statements.specs.Kinds.{or, last, type_here, type_on}
use Rattle.tokens.specs.Token.{choice_of, word_here, of_digits, number_here, number_on, past_number, string_on}
use Rattle.statements.specs.declared.Position.{Position}
use Rattle.statements.specs.Note.{statement_on, text_on}
use Rattle.tokens.proofs.Aheads.{quoted_within}
use Rattle.variables.specs.declared.Head.{Head}
use Rattle.variables.specs.Head.{join_titles, join_head, head_on}
use Rattle.statements.specs.Position.{true_of, below_of, judge_position, both_of, position_rest, position_on}
use Rattle.tokens.specs.declared.Quoted.{Quoted}

-- an equation between two different cases
pub none : {A : Type 0} → ◌≡◌ {A = ℕ} 0 1 → A
none e = absurd (omega arith)

-- ---- a number below the cap says its true value
record True (d : List ℕ) (x : Figures) : Type 0 where
  same : x.size < 1000000000000000 → x.size ≡ true_of d x
  held : x.size ≤ 1000000000000000

uncapped : (v : ℕ) → capped v < 1000000000000000 → capped v ≡ v
uncapped v = by (ltb 1000000000000000 v) where
  by : (b : Bool) → cond b 1000000000000000 v < 1000000000000000 → cond b 1000000000000000 v ≡ v
  by true h = absurd (omega arith)
  by false h = refl

digits_true : (d : List ℕ) (n : ℕ) (x : Figures) → of_digits n (digits_from 0 0 n (text d n)) ≡ Ok x → True d x
unfolding of_digits digits_from
digits_true d n x = by (eqb (digits_from 0 0 n (text d n)).count 0) where
  by : (b : Bool) → cond b (Err (fault 2 n))
      (Ok (record {
        size = (digits_from 0 0 n (text d n)).size;
        count = (digits_from 0 0 n (text d n)).count;
        place = n;
        next = (digits_from 0 0 n (text d n)).next;
      })) ≡ Ok x → True d x
  by true e = none cc
  by false e =
      let j : record {
        size = (digits_from 0 0 n (text d n)).size;
        count = (digits_from 0 0 n (text d n)).count;
        place = n;
        next = (digits_from 0
            0 n (text d n)).next;
      } ≡ x = cc in
      rw (← j) (record { same = λ h. uncapped _ h ∙ sym (run_value d n); held = digits_held 0 0 n (text d n) })

number_true : (d : List ℕ) (t : OrFault ℕ) (x : Figures) → number_on d t ≡ Ok x → True d x
unfolding number_on number_here
number_true d t x = by (gap_on d t) where
  by : (r : OrFault ℕ) → number_here d r ≡ Ok x → True d x
  by (Ok n) e = digits_true d n x e
  by (Err f) e = none cc

-- ---- POSITION: 1 or more, the finish not below it, up to 16,384
pub record GoodPosition (p : Position) : Type 0 where
  pub from_one : 1 ≤ p.start
  pub ordered : p.start ≤ p.finish
  pub low : p.finish ≤ 16384

judge_good : (d : List ℕ) (a b : Figures) (n : ℕ) (p : Position) → True d a → True d b → judge_position (below_of d b a) a b n ≡ Ok p
    → GoodPosition p
unfolding judge_position
judge_good d a b n p s t = by (eqb a.size 0) (ltb (true_of d b) (true_of d a)) (ltb 16384 a.size) (ltb 16384 b.size) refl refl refl
    refl where
      by : (q r u v : Bool) → eqb a.size 0 ≡ q → ltb (true_of d b) (true_of d a) ≡ r → ltb 16384 a.size ≡ u → ltb 16384 b.size ≡ v
          → cond q (Err (fault 7 a.place)) (cond r (Err (fault 7 b.place))
          (cond u (Err (fault 8 a.place))
          (cond v (Err (fault 8 b.place))
          (Ok (record { start = a.size; finish = b.size; place = a.place; next = n }))))) ≡ Ok p → GoodPosition p
      by true r u v e f g h i = none cc
      by false true u v e f g h i = none cc
      by false false true v e f g h i = none cc
      by false false false true e f g h i = none cc
      by false false false false e f g h i =
          let j : record { start = a.size; finish = b.size; place = a.place; next = n } ≡ p = cc in
          let x = ltb-false 16384 a.size g in
          let y = ltb-false 16384 b.size h in
          let z = ltb-false (true_of d b) (true_of d a) f in
          let k = eqb-false a.size 0 e in
          rw (← j) (record { from_one = omega arith; ordered = omega (arith, s.same (omega arith), t.same (omega arith)); low = y })

position_rest_lem : (d : List ℕ) (a : OrFault Figures) (g : OrFault ℕ) (p : Position) → ((x : Figures) → a ≡ Ok x → True d x) → (k : Choice)
    → position_rest d a g k ≡ Ok p → GoodPosition p
unfolding both_of past_number
position_rest_lem d (Err f) g p h (Taken m) e = none cc
position_rest_lem d (Err f) g p h Left e = none cc
position_rest_lem d (Ok x) g p h Left e = by g e where
  by : (r : OrFault ℕ) → both_of d (Ok x) (Ok x) r ≡ Ok p → GoodPosition p
  by (Ok n) e = judge_good d x x n p (h x refl) (h x refl) e
  by (Err f) e = none cc
position_rest_lem d (Ok x) g p h (Taken m) e = by (number_on d (Ok m)) refl e where
  by : (b : OrFault Figures) → number_on d (Ok m) ≡ b → both_of d (Ok x) b (past_number b) ≡ Ok p → GoodPosition p
  by (Ok y) i e = judge_good d x y y.next p (h x refl) (number_true d (Ok m) y i) e
  by (Err f) i e = none cc

pub position_good : (d : List ℕ) (t : OrFault ℕ) (p : Position) → position_on d t ≡ Ok p → GoodPosition p
unfolding position_on
position_good d t p e =
    let a = number_on d (statement_on d t POSITION) in
    position_rest_lem d a (gap_on d (past_number a)) p (number_true d (statement_on d t POSITION))
    (choice_of d (gap_on d (past_number a)) TO) e

-- ---- TYPE: 1 to 5
type_here_lem : (d : List ℕ) (t : OrFault ℕ) (k n : ℕ) → type_here d t ≡ typed.Is k n → (1 ≤ k) × (k ≤ 5)
unfolding type_here
type_here_lem d t k n = by (choice_of d t SINGLE) (choice_of d t MULTIPLE) (choice_of d t QUANTITY) (choice_of d t CHARACTER)
    (word_here d t LOGICAL)
  where
    is : (j m : ℕ) → (1 ≤ j) × (j ≤ 5) → typed.Is j m ≡ typed.Is k n → (1 ≤ k) × (k ≤ 5)
    is j m h e = let q : j ≡ k = cc in rw (← q) h

    by : (a b c e : Choice) (r : OrFault ℕ) → or a 1 (or b 2 (or c 3 (or e 4 (last r 5)))) ≡ typed.Is k n → (1 ≤ k) × (k ≤ 5)
    by (Taken m) b c e r q = is 1 m (omega arith, omega arith) q
    by Left (Taken m) c e r q = is 2 m (omega arith, omega arith) q
    by Left Left (Taken m) e r q = is 3 m (omega arith, omega arith) q
    by Left Left Left (Taken m) r q = is 4 m (omega arith, omega arith) q
    by Left Left Left Left (Ok m) q = is 5 m (omega arith, omega arith) q
    by Left Left Left Left (Err f) q = none cc

-- ---- all of them together
pub record GoodHead (d : List ℕ) (i : OrFault Figures) (h : Head) : Type 0 where
  pub figures : Figures
  pub given : i ≡ Ok figures
  pub ident : h.ident ≡ figures.size
  pub kind_some : 1 ≤ h.kind
  pub kind_few : h.kind ≤ 5
  pub from_one : 1 ≤ h.start
  pub ordered : h.start ≤ h.finish
  pub low : h.finish ≤ 16384
  pub name : h.name.place ≤ length d
  pub name_len : h.name.length ≤ length d
  pub label : h.label.place ≤ length d
  pub label_len : h.label.length ≤ length d

module _ (d : List ℕ) (i : OrFault Figures) (h : Head) where
  joined : (t u v w : OrFault ℕ) (n l : OrFault Quoted) (k : Typed) (p : OrFault Position) → string_on d t ≡ n → string_on d u ≡ l
      → type_here d v ≡ k
      → position_on d w ≡ p
      → join_head (join_titles i n l) k p ≡ Ok h → GoodHead d i h
  unfolding join_head join_titles
  joined t u v w n l k p a b c e = by i n l k p refl a b c e where
    by : (j : OrFault Figures) (n l : OrFault Quoted) (k : Typed) (p : OrFault Position) → i ≡ j → string_on d t ≡ n → string_on d u ≡ l
        → type_here d v ≡ k
        → position_on d w ≡ p
        → join_head (join_titles j n l) k p ≡ Ok h → GoodHead d i h
    by (Err f) n l k p o a b c e g = none cc
    by (Ok x) (Err f) l k p o a b c e g = none cc
    by (Ok x) (Ok n) (Err f) k p o a b c e g = none cc
    by (Ok x) (Ok n) (Ok l) (typed.Not f) p o a b c e g = none cc
    by (Ok x) (Ok n) (Ok l) (typed.Is k m) (Err f) o a b c e g = none cc
    by (Ok x) (Ok n) (Ok l) (typed.Is k m) (Ok q) o a b c e g =
        let j : record {
          ident = x.size;
          name = n;
          label = l;
          kind = k;
          start = q.start;
          finish = q.finish;
          place = q.place;
          next = q.next;
        } ≡ h = cc in
        let y = position_good d w q e in
        let z = type_here_lem d v k m c in
        let r = quoted_within d t n a in
        let s = quoted_within d u l b in
        rw (← j) (record {
          figures = x;
          given = o;
          ident = refl;
          kind_some = z.0;
          kind_few = z.1;
          from_one = y.from_one;
          ordered = y.ordered;
          low = y.low;
          name = r.0;
          name_len = r.1;
          label = s.0;
          label_len = s.1;
        })

  pub head_good : head_on d i ≡ Ok h → GoodHead d i h
  unfolding head_on text_on type_on
  head_good e = joined _ _ _ _ _ _ _ _ refl refl refl refl e
