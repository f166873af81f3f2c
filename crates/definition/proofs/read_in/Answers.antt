use mathlib.Core.Path.{◌≡◌, sym, ap, ◌∙◌}
use Rattle.heading.specs.declared.Front.{Front}
use Rattle.tokens.specs.declared.Fault.{Fault}
use Rattle.laying.specs.declared.Rooms.TheVariants as rooms
use Rattle.definition.specs.declared.Run.TheVariants as run
use Rattle.values.specs.Room.{holds}
use Rattle.values.proofs.Rooms.{unless_on, unless_told}
use Rattle.definition.proofs.Rans.{none}
use Rattle.definition.proofs.Wholes.{small_here, stands_fit, rooms_here, rooms_ends, rooms_not}
use Rattle.definition.proofs.read_in.Goals as goal

-- a refusal of the variables is one of the rooms
not_same : {a b : Fault} → run.Not a ≡ run.Not b → rooms.Refused a.number a.place ≡ rooms.Refused b.number b.place
not_same {a} {b} e = let o : a ≡ b = cc in ap (λ (k : Fault). rooms.Refused k.number k.place) o

pub read_variables-requires : goal.read_variables-requires
read_variables-requires c =
    let p = c.requires in record {
      classes = p.classes;
      tens = p.tens;
      d_len_bound = p.d_len_bound;
      marks_len = p.marks_len;
      seen_value = p.seen_value;
    }

pub settle-requires : goal.settle-requires
settle-requires c =
    let e = unless_told c.read_variables.ensures
    (λ s. let q = sym s ∙ c.in-Is.is in none cc) in
    let front = ap (λ (f : Front). f.next) c.read_front-front.ensures in
    let g = c.in-Is.is in record {
      classes = c.requires.classes;
      rows_le_most_rows = (
        (small_here c.args.d.now c.requires.d_len_bound _ front _ c.args.rows.now _ c.args.lines.now _ e.0
            e.1 _ _ g).0,
        stands_fit c.args.d.now c.requires.d_len_bound _ front _ c.args.rows.now _ c.args.lines.now _ e.0
            e.1 _ _ g,
      );
    }

pub returns-in-Ok : goal.returns-in-Ok
returns-in-Ok c =
    let g = c.in-Is.is in
    let e = unless_told c.read_variables.ensures (λ s. let q = sym s ∙ g in none cc) in
    holds (rooms_here c.args.d.now c.requires.d_len_bound _ (ap (λ (f : Front). f.next) c.read_front-front.ensures) _
    c.args.rows.now _ c.args.lines.now _ e.0 e.1 _ _ _ _ _ _ g
    c.read_ends.ensures c.in-Ok.is (ap (λ (f : Front). f.heading.standard)
    c.read_front-front.ensures) c.settle.ensures)

pub returns-in-Err : goal.returns-in-Err
returns-in-Err c =
    let g = c.in-Is.is in
    let e = unless_told c.read_variables.ensures (λ s. let q = sym s ∙ g in none cc) in
    holds (rooms_ends c.args.d.now c.requires.d_len_bound _ (ap (λ (f : Front). f.next) c.read_front-front.ensures) _
    c.args.rows.now _ c.args.lines.now _ e.0 e.1 _ _ _ _ g c.read_ends.ensures
    c.in-Err.is)

pub returns-in-Not : goal.returns-in-Not
returns-in-Not c =
    let g = c.in-Not.is in
    unless_on (λ s. not_same (sym g ∙ s)) (λ l. l)
    (λ e. rooms_not c.args.d.now c.requires.d_len_bound _ (ap (λ (f : Front). f.next) c.read_front-front.ensures) _
    c.args.rows.now _ c.args.lines.now _ e.0 e.1 _ g)
    c.read_variables.ensures
