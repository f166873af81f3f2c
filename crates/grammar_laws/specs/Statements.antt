-- The statements that are judged once read, POSITION, SIZE, SPREAD, VARIABLE and its ident; and TYPE: both ways.
use Rattle.std.specs.Prelude.{◌≡◌, List, ℕ}
use Rattle.std.proofs.Math.Path.{refl}
use Rattle.std.proofs.Math.Option.{Option, get_or}
use Rattle.scan.specs.Word.{capitals}
use Rattle.tokens.specs.declared.Fault.{Fault}
use Rattle.tokens.specs.rule.Gap.{fault}
use Rattle.statements.specs.rule.Words.{POSITION, TO, SIZE, OF, VARIABLE, TYPE, SINGLE, MULTIPLE, QUANTITY, CHARACTER}
use Rattle.statements.specs.rule.Words.{LOGICAL}
use Rattle.survey.specs.rule.Survey.{Figure, Variable}
use Rattle.survey.specs.rule.Survey as says
use Rattle.reading.specs.rule.Result.{Is, Not, Reader}
use Rattle.reading.specs.rule.Token.{either, number}
use Rattle.reading.specs.rule.Statement.{position, spread, size, position_charges, spread_charges, size_charges}
use Rattle.reading.specs.rule.Statement as rule
use Rattle.reading.specs.rule.Variable.{ident_charges, Sort, Single, Multiple, Quantity, Character, Logical, ident, type}
use Rattle.grammar.specs.Token.{keyword, Number, Statement, Optional}
use Rattle.grammar.specs.Grammar.{Position}
use Rattle.grammar.specs.Grammar as grammar
use Rattle.grammar.specs.Faults.{Clean}
use Rattle.grammar.specs.Refusal.{Due, due, Or, stands, absent, Never, PositionStops, PositionRead, SizeStops}
use Rattle.grammar.specs.Refusal.{SpreadStops, IdentStops, IdentRead, TypeRead, TypeStops, NoType, sound}
use Rattle.grammar.specs.Refusal as refusal
use Rattle.grammar_laws.specs.Views.{View, reads, halts, recast, then, word_at_lem, word_not, either_view, then_halted, judge}
use Rattle.grammar_laws.specs.Views.{judged_there, judged_halted}
use Rattle.grammar_laws.specs.Places.{gap_there, differ, other_word}
use Rattle.grammar_laws.specs.Tokens.{gap_view, gap_is, gap_not, number_view, number_is, number_halted, optional_view, optional_is}
use Rattle.grammar_laws.specs.Tokens.{optional_halted}
use Rattle.grammar_laws.specs.Notes.{statement_view, statement_is, statement_halted}

module _ (d : List ℕ) where
  -- ---- POSITION a [TO b]
  pub position_view : (n : ℕ) → View (PositionRead d n) (PositionStops d n) (position d n)
  unfolding position capitals
  position_view n =
      then (statement_view d {w = POSITION} refl n) λ u k s.
      then (number_view d k) λ a j x.
      then (optional_view d {w = TO} refl (number d) (number_view d) j) λ b m o.
      judge (position_charges a (get_or b a)) (record { start = a; finish = b }) m (λ c. sound (grammar.position s x o) c)

  pub position_is : {n m : ℕ} {p : rule.Position} → PositionRead d n p m → position d n ≡ Is p m
  unfolding position capitals differ
  position_is {m = m} {p = p} (sound (grammar.position s x o) c) =
      rw (statement_is d {w = POSITION} refl refl s, number_is d x, optional_is d {w = TO} refl (number d) (λ n m a. number_is d) o)
      (judged_there (position_charges p.start (get_or p.finish p.start)) p m c)

  pub position_halted : (n : ℕ) {f : Fault} → PositionStops d n f → position d n ≡ Not f
  unfolding position capitals differ
  position_halted n =
      then_halted _ _ (λ f. statement_halted d {w = POSITION} refl n) (λ u m. statement_is d refl refl) λ u k f.
      then_halted _ _ (λ f. number_halted d k) (λ a m. number_is d) λ a j f.
      then_halted _ _ (λ f. optional_halted d {w = TO} refl (number d) (λ n f. number_halted d n) j)
      (λ b m. optional_is d {w = TO} refl (number d) (λ n m a. number_is d)) λ b m f.
      judged_halted (position_charges a (get_or b a)) (record { start = a; finish = b }) m

  -- ---- SIZE n
  pub data SizeRead (n : ℕ) : Figure → ℕ → Type 0 where
    size_read : {k m : ℕ} {x : Figure} → Statement d SIZE n k → Number d k x m → Clean (size_charges x) → SizeRead n x m

  pub size_view : (n : ℕ) → View (SizeRead n) (SizeStops d n) (size d n)
  unfolding size capitals
  size_view n =
      then (statement_view d {w = SIZE} refl n) λ u k s.
      then (number_view d k) λ x m y.
      judge (size_charges x) x m (λ c. size_read s y c)

  pub size_is : {n m : ℕ} {x : Figure} → SizeRead n x m → size d n ≡ Is x m
  unfolding size capitals differ
  size_is {m = m} {x = x} (size_read s y c) =
      rw (statement_is d {w = SIZE} refl refl s, number_is d y) (judged_there (size_charges x) x m c)

  pub size_halted : (n : ℕ) {f : Fault} → SizeStops d n f → size d n ≡ Not f
  unfolding size capitals differ
  size_halted n =
      then_halted _ _ (λ f. statement_halted d {w = SIZE} refl n) (λ u m. statement_is d refl refl) λ u k f.
      then_halted _ _ (λ f. number_halted d k) (λ a m. number_is d) λ x m f.
      judged_halted (size_charges x) x m

  -- ---- n [OF w], behind SPREAD
  pub data PartsRead (width n : ℕ) : says.Spread → ℕ → Type 0 where
    parts : {j m : ℕ} {x : Figure} {w : Option Figure} → Number d n x j → Optional d OF (Number d) j w m → Clean (spread_charges width x w)
        → PartsRead width n (record { count = x; width = w }) m

  pub spread_view : (width n : ℕ) → View (PartsRead width n) (SpreadStops d width n) (spread d width n)
  unfolding spread capitals
  spread_view width n =
      then (number_view d n) λ x j y.
      then (optional_view d {w = OF} refl (number d) (number_view d) j) λ w m o.
      judge (spread_charges width x w) (record { count = x; width = w }) m (λ c. parts y o c)

  pub spread_is : (width : ℕ) {n m : ℕ} {s : says.Spread} → PartsRead width n s m → spread d width n ≡ Is s m
  unfolding spread capitals
  spread_is width {m = m} {s = s} (parts y o c) =
      rw (number_is d y, optional_is d {w = OF} refl (number d) (λ n m a. number_is d) o)
      (judged_there (spread_charges width s.count s.width) s m c)

  pub spread_halted : (width n : ℕ) {f : Fault} → SpreadStops d width n f → spread d width n ≡ Not f
  unfolding spread capitals
  spread_halted width n =
      then_halted _ _ (λ f. number_halted d n) (λ a m. number_is d) λ x j f.
      then_halted _ _ (λ f. optional_halted d {w = OF} refl (number d) (λ n f. number_halted d n) j)
      (λ w m. optional_is d {w = OF} refl (number d) (λ n m a. number_is d)) λ w m f.
      judged_halted (spread_charges width x w) (record { count = x; width = w }) m

  -- ---- VARIABLE and its ident
  module _ (earlier : List Variable) where
    pub ident_view : (n : ℕ) → View (IdentRead d earlier n) (IdentStops d earlier n) (ident d earlier n)
    unfolding ident capitals
    ident_view n =
        then (statement_view d {w = VARIABLE} refl n) λ u k s.
        then (number_view d k) λ x m y.
        judge (ident_charges earlier x) x m (λ c. refusal.ident s y c)

    pub ident_is : {n m : ℕ} {x : Figure} → IdentRead d earlier n x m → ident d earlier n ≡ Is x m
    unfolding ident capitals differ
    ident_is {m = m} {x = x} (refusal.ident s y c) =
        rw (statement_is d {w = VARIABLE} refl refl s, number_is d y) (judged_there (ident_charges earlier x) x m c)

    pub ident_halted : (n : ℕ) {f : Fault} → IdentStops d earlier n f → ident d earlier n ≡ Not f
    unfolding ident capitals differ
    ident_halted n =
        then_halted _ _ (λ f. statement_halted d {w = VARIABLE} refl n) (λ u m. statement_is d refl refl) λ u k f.
        then_halted _ _ (λ f. number_halted d k) (λ a m. number_is d) λ x m f.
        judged_halted (ident_charges earlier x) x m

  -- ---- TYPE and one of five words
  abbrev Fifth : ℕ → Fault → Type 0
  Fifth n =
      Or d SINGLE n (λ m. Never) (Or d MULTIPLE n (λ m. Never) (Or d QUANTITY n (λ m. Never) (Or d CHARACTER n (λ m. Never)
      (Or d LOGICAL n (λ m. Never) (Due Unit n)))))

  none_of : (n : ℕ) (f : Fault) → Fifth n f → Due (NoType d n) n f
  none_of n f (stands h z) = absurd z
  none_of n f (absent a (stands h z)) = absurd z
  none_of n f (absent a (absent b (stands h z))) = absurd z
  none_of n f (absent a (absent b (absent c (stands h z)))) = absurd z
  none_of n f (absent a (absent b (absent c (absent e (stands h z))))) = absurd z
  none_of n f (absent a (absent b (absent c (absent e (absent g (due u)))))) =
      due (record { no_single = a; no_multiple = b; no_quantity = c; no_character = e; no_logical = g })

  -- what is tried behind a word that does not stand
  abbrev from_logical : Reader Sort
  from_logical = either d LOGICAL (λ m. Is Logical m) (λ m. Not (fault 2 m))

  abbrev from_character : Reader Sort
  from_character = either d CHARACTER (λ m. Is Character m) from_logical

  abbrev from_quantity : Reader Sort
  from_quantity = either d QUANTITY (λ m. Is Quantity m) from_character

  abbrev from_multiple : Reader Sort
  from_multiple = either d MULTIPLE (λ m. Is Multiple m) from_quantity

  pub type_view : (n : ℕ) → View (TypeRead d n) (TypeStops d n) (type d n)
  unfolding type capitals
  type_view n =
      then (statement_view d {w = TYPE} refl n) λ u k s.
      then (gap_view d k) λ u j g.
      recast (λ t m x. x) (none_of j)
      (either_view d {w = SINGLE} refl j _ from_multiple (λ m h. reads (refusal.type {t = Single} s (keyword g h))) λ a.
      either_view d {w = MULTIPLE} refl j _ from_quantity (λ m h. reads (refusal.type {t = Multiple} s (keyword g h))) λ b.
      either_view d {w = QUANTITY} refl j _ from_character (λ m h. reads (refusal.type {t = Quantity} s (keyword g h))) λ c.
      either_view d {w = CHARACTER} refl j _ from_logical (λ m h. reads (refusal.type {t = Character} s (keyword g h))) λ e.
      either_view d {w = LOGICAL} refl j _ (λ m. Not (fault 2 m)) (λ m h. reads (refusal.type {t = Logical} s (keyword g h))) λ f. halts
      (due tt))

  pub type_is : {n m : ℕ} (t : Sort) → TypeRead d n t m → type d n ≡ Is t m
  unfolding type capitals differ
  type_is Single (refusal.type s (keyword g h)) = rw (statement_is d {w = TYPE} refl refl s, gap_there d g, word_at_lem d refl h)
  type_is Multiple (refusal.type s (keyword g h)) =
      rw (
        statement_is d {w = TYPE} refl refl s,
        gap_there d g,
        word_not d {w = SINGLE} refl (other_word d refl refl refl h),
        word_at_lem d
            refl h,
      )
  type_is Quantity (refusal.type s (keyword g h)) =
      rw (
        statement_is d {w = TYPE} refl refl s,
        gap_there d g,
        word_not d {w = SINGLE} refl (other_word d refl refl refl h),
        word_not d {w = MULTIPLE} refl (other_word d refl refl refl h),
        word_at_lem d refl h,
      )
  type_is Character (refusal.type s (keyword g h)) =
      rw (
        statement_is d {w = TYPE} refl refl s,
        gap_there d g,
        word_not d {w = SINGLE} refl (other_word d refl refl refl h),
        word_not d {w = MULTIPLE} refl (other_word d refl refl refl h),
        word_not d {w = QUANTITY} refl (other_word d refl refl refl h),
        word_at_lem d refl h,
      )
  type_is Logical (refusal.type s (keyword g h)) =
      rw (
        statement_is d {w = TYPE} refl refl s,
        gap_there d g,
        word_not d {w = SINGLE} refl (other_word d refl refl refl h),
        word_not d {w = MULTIPLE} refl (other_word d refl refl refl h),
        word_not d {w = QUANTITY} refl (other_word d refl refl refl h),
        word_not d {w = CHARACTER} refl (other_word d refl refl refl h),
        word_at_lem d refl h,
      )

  no_type : (n : ℕ) {f : Fault} → Due (NoType d n) n f → either d SINGLE (λ m. Is Single m) (either d MULTIPLE (λ m. Is Multiple m)
      (either d QUANTITY (λ m. Is Quantity m) (either d CHARACTER (λ m. Is Character m) (either d LOGICAL (λ m. Is Logical m)
      (λ m. Not (fault 2 m)))))) n ≡ Not f
  unfolding capitals
  no_type n (due z) = rw (
    word_not d {w = SINGLE} refl z.no_single,
    word_not d {w = MULTIPLE} refl z.no_multiple,
    word_not d {w = QUANTITY} refl z.no_quantity,
    word_not d {w = CHARACTER} refl z.no_character,
    word_not d {w = LOGICAL} refl z.no_logical,
  )

  pub type_halted : (n : ℕ) {f : Fault} → TypeStops d n f → type d n ≡ Not f
  unfolding type capitals differ
  type_halted n =
      then_halted _ _ (λ f. statement_halted d {w = TYPE} refl n) (λ u m. statement_is d refl refl) λ u k f.
      then_halted _ _ (λ f. gap_not d) (λ u m. gap_is d) λ u j f. no_type j
