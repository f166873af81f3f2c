-- Prologs read by computing the definitions.
use mathlib.Core.Path.{◌≡◌, refl}
use mathlib.Core.Bool.{true, false}
use mathlib.Core.List.{[], ◌∷◌}
use Rattle.ascii.specs.rule.Class.{upper_of}
use Rattle.scan.specs.rule.Loop.{loop_of}
use Rattle.markup.specs.rule.Bytes.{run_of, stands, of_kind, is_white, is_digit, is_hex, is_name, starts_name}
use Rattle.markup.specs.rule.Gap.{xml_comment, move_of, gap_of}
use Rattle.prologs.specs.rule.Told.{start_behind_mark, is_xml, is_public, between_quotes, cut_of, closed_string, quoted_string, spelt_of}
use Rattle.prologs.specs.rule.Told.{among_of, alikes, alike_of}
use Rattle.prologs.specs.rule.Told.{due_of, miss_of, root_missed, tell_of}
use Rattle.prologs.specs.rule.Told.{declaration_of, gap_to, head_of, end_of_file, tail_from}
use Rattle.prologs.specs.declared.Prolog.TheVariants.{Read, Fault}
use Rattle.prologs.specs.declared.Tail.TheVariants.{Clean, Foul}

-- document 000's example as it is printed: 50 at the declaration's >
printed : declaration_of (60 ∷ 63 ∷ 120 ∷ 109 ∷ 108 ∷ 32 ∷ 118 ∷ 101 ∷ 114 ∷ 115 ∷ 105 ∷ 111 ∷ 110 ∷ 61 ∷ 34 ∷ 49 ∷ 46 ∷ 48 ∷ 34 ∷ 32 ∷ 101
    ∷ 110 ∷ 99 ∷ 111 ∷ 100 ∷ 105 ∷ 110 ∷ 103 ∷ 61 ∷ 34 ∷ 73 ∷ 83 ∷ 79 ∷ 45 ∷ 56 ∷ 56 ∷ 53 ∷ 57 ∷ 45 ∷ 49 ∷ 34 ∷ 62 ∷ 10 ∷ 60 ∷ 33 ∷ 68 ∷ 79
    ∷ 67 ∷ 84 ∷ 89 ∷ 80 ∷ 69 ∷ []) ≡ Fault 50 41
unfolding declaration_of start_behind_mark is_xml tell_of quoted_string cut_of closed_string between_quotes is_public spelt_of among_of
    alikes alike_of
    upper_of due_of miss_of
    root_missed
    head_of gap_to tail_from end_of_file gap_of move_of xml_comment loop_of run_of stands of_kind is_white is_digit is_hex is_name
    starts_name
printed = refl

-- and with ?>
mended : declaration_of (60 ∷ 63 ∷ 120 ∷ 109 ∷ 108 ∷ 32 ∷ 118 ∷ 101 ∷ 114 ∷ 115 ∷ 105 ∷ 111 ∷ 110 ∷ 61 ∷ 34 ∷ 49 ∷ 46 ∷ 48 ∷ 34 ∷ 32 ∷ 101
    ∷ 110 ∷ 99 ∷ 111 ∷ 100 ∷ 105 ∷ 110 ∷ 103 ∷ 61 ∷ 34 ∷ 73 ∷ 83 ∷ 79 ∷ 45 ∷ 56 ∷ 56 ∷ 53 ∷ 57 ∷ 45 ∷ 49 ∷ 34 ∷ 63 ∷ 62 ∷ 10 ∷ [])
    ≡ Read true 43
unfolding declaration_of start_behind_mark is_xml tell_of quoted_string cut_of closed_string between_quotes is_public spelt_of among_of
    alikes alike_of
    upper_of due_of miss_of
    root_missed
    head_of gap_to tail_from end_of_file gap_of move_of xml_comment loop_of run_of stands of_kind is_white is_digit is_hex is_name
    starts_name
mended = refl

-- its DOCTYPE, behind a line feed
typed : head_of false true (10 ∷ 60 ∷ 33 ∷ 68 ∷ 79 ∷ 67 ∷ 84 ∷ 89 ∷ 80 ∷ 69 ∷ 32 ∷ 115 ∷ 115 ∷ 115 ∷ 32 ∷ 80 ∷ 85 ∷ 66 ∷ 76 ∷ 73 ∷ 67 ∷ 32
    ∷ 34 ∷ 45 ∷ 47 ∷ 47 ∷ 116 ∷ 114 ∷ 105 ∷ 112 ∷ 108 ∷ 101 ∷ 45 ∷ 115 ∷ 47 ∷ 47 ∷ 68 ∷ 84 ∷ 68 ∷ 32 ∷ 83 ∷ 117 ∷ 114 ∷ 118 ∷ 101 ∷ 121 ∷ 32
    ∷ 73 ∷ 110 ∷ 116 ∷ 101 ∷ 114 ∷ 99 ∷ 104 ∷ 97 ∷ 110 ∷ 103 ∷ 101 ∷ 32 ∷ 118 ∷ 49 ∷ 46 ∷ 50 ∷ 47 ∷ 47 ∷ 69 ∷ 78 ∷ 34 ∷ 10 ∷ 32 ∷ 32 ∷ 32
    ∷ 32 ∷ 32 ∷ 32 ∷ 32 ∷ 32 ∷ 32 ∷ 32 ∷ 32 ∷ 32 ∷ 32 ∷ 32 ∷ 32 ∷ 32 ∷ 32 ∷ 32 ∷ 32 ∷ 32 ∷ 32 ∷ 34 ∷ 104 ∷ 116 ∷ 116 ∷ 112 ∷ 58 ∷ 47 ∷ 47
    ∷ 119 ∷ 119 ∷ 119 ∷ 46 ∷ 116 ∷ 114 ∷ 105 ∷ 112 ∷ 108 ∷ 101 ∷ 45 ∷ 115 ∷ 46 ∷ 111 ∷ 114 ∷ 103 ∷ 47 ∷ 100 ∷ 116 ∷ 100 ∷ 47 ∷ 115 ∷ 115
    ∷ 115 ∷ 32 ∷ 118 ∷ 49 ∷ 50 ∷ 46 ∷ 100 ∷ 116 ∷ 100 ∷ 34 ∷ 62 ∷ 10 ∷ 60 ∷ 115 ∷ 115 ∷ 115 ∷ []) 0 ≡ Read true 133
unfolding declaration_of start_behind_mark is_xml tell_of quoted_string cut_of closed_string between_quotes is_public spelt_of among_of
    alikes alike_of
    upper_of due_of miss_of
    root_missed
    head_of gap_to tail_from end_of_file gap_of move_of xml_comment loop_of run_of stands of_kind is_white is_digit is_hex is_name
    starts_name
typed = refl

-- <sss
absent : declaration_of (60 ∷ 115 ∷ 115 ∷ 115 ∷ []) ≡ Read false 0
unfolding declaration_of start_behind_mark is_xml tell_of quoted_string cut_of closed_string between_quotes is_public spelt_of among_of
    alikes alike_of
    upper_of due_of miss_of
    root_missed
    head_of gap_to tail_from end_of_file gap_of move_of xml_comment loop_of run_of stands of_kind is_white is_digit is_hex is_name
    starts_name
absent = refl

-- at its v
versiom : declaration_of (60 ∷ 63 ∷ 120 ∷ 109 ∷ 108 ∷ 32 ∷ 118 ∷ 101 ∷ 114 ∷ 115 ∷ 105 ∷ 111 ∷ 109 ∷ 61 ∷ 34 ∷ 49 ∷ 46 ∷ 48 ∷ 34 ∷ 63 ∷ 62
    ∷ []) ≡ Fault 50 6
unfolding declaration_of start_behind_mark is_xml tell_of quoted_string cut_of closed_string between_quotes is_public spelt_of among_of
    alikes alike_of
    upper_of due_of miss_of
    root_missed
    head_of gap_to tail_from end_of_file gap_of move_of xml_comment loop_of run_of stands of_kind is_white is_digit is_hex is_name
    starts_name
versiom = refl

-- at the x
versionx : declaration_of (60 ∷ 63 ∷ 120 ∷ 109 ∷ 108 ∷ 32 ∷ 118 ∷ 101 ∷ 114 ∷ 115 ∷ 105 ∷ 111 ∷ 110 ∷ 120 ∷ 61 ∷ 34 ∷ 49 ∷ 46 ∷ 48 ∷ 34 ∷ 63
    ∷ 62 ∷ []) ≡ Fault 50 13
unfolding declaration_of start_behind_mark is_xml tell_of quoted_string cut_of closed_string between_quotes is_public spelt_of among_of
    alikes alike_of
    upper_of due_of miss_of
    root_missed
    head_of gap_to tail_from end_of_file gap_of move_of xml_comment loop_of run_of stands of_kind is_white is_digit is_hex is_name
    starts_name
versionx = refl

-- at the < where nothing is left
nothing : declaration_of (60 ∷ 63 ∷ 120 ∷ 109 ∷ 108 ∷ 32 ∷ 118 ∷ 101 ∷ 114 ∷ 115 ∷ 105 ∷ 111 ∷ 110 ∷ 61 ∷ 34 ∷ 49 ∷ 46 ∷ 48 ∷ 34 ∷ 32 ∷ [])
    ≡ Fault 50 0
unfolding declaration_of start_behind_mark is_xml tell_of quoted_string cut_of closed_string between_quotes is_public spelt_of among_of
    alikes alike_of
    upper_of due_of miss_of
    root_missed
    head_of gap_to tail_from end_of_file gap_of move_of xml_comment loop_of run_of stands of_kind is_white is_digit is_hex is_name
    starts_name
nothing = refl

-- letter case aside; standalone
small_letters : declaration_of (60 ∷ 63 ∷ 120 ∷ 109 ∷ 108 ∷ 32 ∷ 118 ∷ 101 ∷ 114 ∷ 115 ∷ 105 ∷ 111 ∷ 110 ∷ 32 ∷ 61 ∷ 32 ∷ 39 ∷ 49 ∷ 46 ∷ 48
    ∷ 39 ∷ 32 ∷ 101 ∷ 110 ∷ 99 ∷ 111 ∷ 100 ∷ 105 ∷ 110 ∷ 103 ∷ 61 ∷ 39 ∷ 105 ∷ 115 ∷ 111 ∷ 45 ∷ 56 ∷ 56 ∷ 53 ∷ 57 ∷ 45 ∷ 49 ∷ 39 ∷ 32 ∷ 115
    ∷ 116 ∷ 97 ∷ 110 ∷ 100 ∷ 97 ∷ 108 ∷ 111 ∷ 110 ∷ 101 ∷ 61 ∷ 39 ∷ 110 ∷ 111 ∷ 39 ∷ 32 ∷ 63 ∷ 62 ∷ []) ≡ Read true 62
unfolding declaration_of start_behind_mark is_xml tell_of quoted_string cut_of closed_string between_quotes is_public spelt_of among_of
    alikes alike_of
    upper_of due_of miss_of
    root_missed
    head_of gap_to tail_from end_of_file gap_of move_of xml_comment loop_of run_of stands of_kind is_white is_digit is_hex is_name
    starts_name
small_letters = refl

-- no aliases
alias : declaration_of (60 ∷ 63 ∷ 120 ∷ 109 ∷ 108 ∷ 32 ∷ 118 ∷ 101 ∷ 114 ∷ 115 ∷ 105 ∷ 111 ∷ 110 ∷ 61 ∷ 39 ∷ 49 ∷ 46 ∷ 48 ∷ 39 ∷ 32 ∷ 101
    ∷ 110 ∷ 99 ∷ 111 ∷ 100 ∷ 105 ∷ 110 ∷ 103 ∷ 61 ∷ 39 ∷ 108 ∷ 97 ∷ 116 ∷ 105 ∷ 110 ∷ 49 ∷ 39 ∷ 63 ∷ 62 ∷ []) ≡ Fault 50 30
unfolding declaration_of start_behind_mark is_xml tell_of quoted_string cut_of closed_string between_quotes is_public spelt_of among_of
    alikes alike_of
    upper_of due_of miss_of
    root_missed
    head_of gap_to tail_from end_of_file gap_of move_of xml_comment loop_of run_of stands of_kind is_white is_digit is_hex is_name
    starts_name
alias = refl

-- a byte order mark with ISO-8859-1, at the name
mark : declaration_of (239 ∷ 187 ∷ 191 ∷ 60 ∷ 63 ∷ 120 ∷ 109 ∷ 108 ∷ 32 ∷ 118 ∷ 101 ∷ 114 ∷ 115 ∷ 105 ∷ 111 ∷ 110 ∷ 61 ∷ 34 ∷ 49 ∷ 46 ∷ 48
    ∷ 34 ∷ 32 ∷ 101 ∷ 110 ∷ 99 ∷ 111 ∷ 100 ∷ 105 ∷ 110 ∷ 103 ∷ 61 ∷ 34 ∷ 73 ∷ 83 ∷ 79 ∷ 45 ∷ 56 ∷ 56 ∷ 53 ∷ 57 ∷ 45 ∷ 49 ∷ 34 ∷ 63 ∷ 62
    ∷ []) ≡ Fault 50 33
unfolding declaration_of start_behind_mark is_xml tell_of quoted_string cut_of closed_string between_quotes is_public spelt_of among_of
    alikes alike_of
    upper_of due_of miss_of
    root_missed
    head_of gap_to tail_from end_of_file gap_of move_of xml_comment loop_of run_of stands of_kind is_white is_digit is_hex is_name
    starts_name
mark = refl

-- at the [, right behind the root's name too
subset : head_of false false (60 ∷ 33 ∷ 68 ∷ 79 ∷ 67 ∷ 84 ∷ 89 ∷ 80 ∷ 69 ∷ 32 ∷ 115 ∷ 115 ∷ 115 ∷ 91 ∷ []) 0 ≡ Fault 51 13
unfolding declaration_of start_behind_mark is_xml tell_of quoted_string cut_of closed_string between_quotes is_public spelt_of among_of
    alikes alike_of
    upper_of due_of miss_of
    root_missed
    head_of gap_to tail_from end_of_file gap_of move_of xml_comment loop_of run_of stands of_kind is_white is_digit is_hex is_name
    starts_name
subset = refl

-- at the name
other_root : head_of false false (60 ∷ 33 ∷ 68 ∷ 79 ∷ 67 ∷ 84 ∷ 89 ∷ 80 ∷ 69 ∷ 32 ∷ 104 ∷ 116 ∷ 109 ∷ 108 ∷ 32 ∷ 83 ∷ 89 ∷ 83 ∷ 84 ∷ 69 ∷ 77
    ∷ 32 ∷ 34 ∷ 120 ∷ 34 ∷ 62 ∷ []) 0 ≡ Fault 2 10
unfolding declaration_of start_behind_mark is_xml tell_of quoted_string cut_of closed_string between_quotes is_public spelt_of among_of
    alikes alike_of
    upper_of due_of miss_of
    root_missed
    head_of gap_to tail_from end_of_file gap_of move_of xml_comment loop_of run_of stands of_kind is_white is_digit is_hex is_name
    starts_name
other_root = refl

-- cut by the file's end, at its first byte; cut by a character that is not legal, at that
cut_root : head_of false false (60 ∷ 33 ∷ 68 ∷ 79 ∷ 67 ∷ 84 ∷ 89 ∷ 80 ∷ 69 ∷ 32 ∷ 115 ∷ 115 ∷ []) 0 ≡ Fault 50 10
unfolding declaration_of start_behind_mark is_xml tell_of quoted_string cut_of closed_string between_quotes is_public spelt_of among_of
    alikes alike_of
    upper_of due_of miss_of
    root_missed
    head_of gap_to tail_from end_of_file gap_of move_of xml_comment loop_of run_of stands of_kind is_white is_digit is_hex is_name
    starts_name
cut_root = refl

bad_root : head_of true false (60 ∷ 33 ∷ 68 ∷ 79 ∷ 67 ∷ 84 ∷ 89 ∷ 80 ∷ 69 ∷ 32 ∷ 115 ∷ []) 0 ≡ Fault 50 11
unfolding declaration_of start_behind_mark is_xml tell_of quoted_string cut_of closed_string between_quotes is_public spelt_of among_of
    alikes alike_of
    upper_of due_of miss_of
    root_missed
    head_of gap_to tail_from end_of_file gap_of move_of xml_comment loop_of run_of stands of_kind is_white is_digit is_hex is_name
    starts_name
bad_root = refl

-- at the x
longer_root : head_of false false (60 ∷ 33 ∷ 68 ∷ 79 ∷ 67 ∷ 84 ∷ 89 ∷ 80 ∷ 69 ∷ 32 ∷ 115 ∷ 115 ∷ 115 ∷ 120 ∷ 32 ∷ 83 ∷ 89 ∷ 83 ∷ 84 ∷ 69
    ∷ 77
    ∷ 32 ∷ 34 ∷ 120 ∷ 34 ∷ 62 ∷ []) 0 ≡ Fault 50 13
unfolding declaration_of start_behind_mark is_xml tell_of quoted_string cut_of closed_string between_quotes is_public spelt_of among_of
    alikes alike_of
    upper_of due_of miss_of
    root_missed
    head_of gap_to tail_from end_of_file gap_of move_of xml_comment loop_of run_of stands of_kind is_white is_digit is_hex is_name
    starts_name
longer_root = refl

-- a tab is no character of a public identifier
tab : head_of false false (60 ∷ 33 ∷ 68 ∷ 79 ∷ 67 ∷ 84 ∷ 89 ∷ 80 ∷ 69 ∷ 32 ∷ 115 ∷ 115 ∷ 115 ∷ 32 ∷ 80 ∷ 85 ∷ 66 ∷ 76 ∷ 73 ∷ 67 ∷ 32 ∷ 34
    ∷ 97 ∷ 9 ∷ 98 ∷ 34 ∷ 32 ∷ 34 ∷ 120 ∷ 34 ∷ 62 ∷ []) 0 ≡ Fault 50 23
unfolding declaration_of start_behind_mark is_xml tell_of quoted_string cut_of closed_string between_quotes is_public spelt_of among_of
    alikes alike_of
    upper_of due_of miss_of
    root_missed
    head_of gap_to tail_from end_of_file gap_of move_of xml_comment loop_of run_of stands of_kind is_white is_digit is_hex is_name
    starts_name
tab = refl

-- white space and comments behind the root
comments : tail_from false (32 ∷ 60 ∷ 33 ∷ 45 ∷ 45 ∷ 32 ∷ 120 ∷ 32 ∷ 45 ∷ 45 ∷ 62 ∷ 10 ∷ []) 0 ≡ Clean
unfolding declaration_of start_behind_mark is_xml tell_of quoted_string cut_of closed_string between_quotes is_public spelt_of among_of
    alikes alike_of
    upper_of due_of miss_of
    root_missed
    head_of gap_to tail_from end_of_file gap_of move_of xml_comment loop_of run_of stands of_kind is_white is_digit is_hex is_name
    starts_name
comments = refl

-- a processing instruction
instruction : tail_from false (32 ∷ 60 ∷ 63 ∷ 120 ∷ 63 ∷ 62 ∷ []) 0 ≡ Foul 51 1
unfolding declaration_of start_behind_mark is_xml tell_of quoted_string cut_of closed_string between_quotes is_public spelt_of among_of
    alikes alike_of
    upper_of due_of miss_of
    root_missed
    head_of gap_to tail_from end_of_file gap_of move_of xml_comment loop_of run_of stands of_kind is_white is_digit is_hex is_name
    starts_name
instruction = refl

-- a second root
more : tail_from false (60 ∷ 115 ∷ 115 ∷ 115 ∷ 62 ∷ []) 0 ≡ Foul 50 0
unfolding declaration_of start_behind_mark is_xml tell_of quoted_string cut_of closed_string between_quotes is_public spelt_of among_of
    alikes alike_of
    upper_of due_of miss_of
    root_missed
    head_of gap_to tail_from end_of_file gap_of move_of xml_comment loop_of run_of stands of_kind is_white is_digit is_hex is_name
    starts_name
more = refl

-- <c>SSS is no XML
old : is_xml (60 ∷ 99 ∷ 62 ∷ 83 ∷ 83 ∷ 83 ∷ []) ≡ false
unfolding declaration_of start_behind_mark is_xml tell_of quoted_string cut_of closed_string between_quotes is_public spelt_of among_of
    alikes alike_of
    upper_of due_of miss_of
    root_missed
    head_of gap_to tail_from end_of_file gap_of move_of xml_comment loop_of run_of stands of_kind is_white is_digit is_hex is_name
    starts_name
old = refl

-- a value that breaks off is a token that stands there
broken_off : declaration_of (60 ∷ 63 ∷ 120 ∷ 109 ∷ 108 ∷ 32 ∷ 118 ∷ 101 ∷ 114 ∷ 115 ∷ 105 ∷ 111 ∷ 110 ∷ 61 ∷ 34 ∷ 49 ∷ 46 ∷ 48 ∷ [])
    ≡ Fault 50 15
unfolding declaration_of start_behind_mark is_xml tell_of quoted_string cut_of closed_string between_quotes is_public spelt_of among_of
    alikes alike_of
    upper_of due_of miss_of
    root_missed
    head_of gap_to tail_from end_of_file gap_of move_of xml_comment loop_of run_of stands of_kind is_white is_digit is_hex is_name
    starts_name
broken_off = refl

-- behind its quote nothing is left
quote_alone : declaration_of (60 ∷ 63 ∷ 120 ∷ 109 ∷ 108 ∷ 32 ∷ 118 ∷ 101 ∷ 114 ∷ 115 ∷ 105 ∷ 111 ∷ 110 ∷ 61 ∷ 34 ∷ []) ≡ Fault 50 0
unfolding declaration_of start_behind_mark is_xml tell_of quoted_string cut_of closed_string between_quotes is_public spelt_of among_of
    alikes alike_of
    upper_of due_of miss_of
    root_missed
    head_of gap_to tail_from end_of_file gap_of move_of xml_comment loop_of run_of stands of_kind is_white is_digit is_hex is_name
    starts_name
quote_alone = refl
