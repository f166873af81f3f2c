-- "The encoding is the declaration's where that is not refused, else UTF-8": of an XML definition. "A file is XML when it begins with
-- `<?xml` or
-- `<sss`, alone or behind EF BB BF."
use Rattle.std.specs.Prelude.{Bool, false, List, ℕ}
use Rattle.prologs.specs.rule.Told.{is_xml, declaration_of}
use Rattle.prologs.specs.declared.Prolog.{Prolog}
use Rattle.prologs.specs.declared.Prolog.TheVariants as prolog
use Rattle.scripts.specs.declared.Script.{Script}

-- whether it is ISO-8859-1
abbrev pub latin_by : Prolog → Bool
latin_by (prolog.Read latin n) = latin
latin_by (prolog.Fault number p) = false

unfoldable pub latin_of : List ℕ → Bool
latin_of d = latin_by (declaration_of d)

abbrev pub script_of : List ℕ → Script
script_of d = record { xml = is_xml d; latin = latin_of d }
