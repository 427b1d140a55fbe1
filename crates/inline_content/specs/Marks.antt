-- Where lines start before which something else than white space stands.
use Rattle.std.specs.Prelude.{ℕ, if◌then◌else◌, ◌==◌, List, [], ◌∷◌}
use Rattle.markdown_options.specs.declared.beside.Kind.{Kind}
use Rattle.markdown_options.specs.declared.beside.Kind.TheVariants.{Whitespace}
use Rattle.inline_content.specs.declared.mark.Mark.{Mark}

abbrev pub mark_place : Mark → ℕ
mark_place mark = mark.place

-- the kind of the character before the line that starts at a place: white space, where there is no mark
abbrev pub kind_at : List Mark → ℕ → Kind
kind_at [] place = Whitespace
kind_at (mark ∷ marks) place = if mark.place == place then mark.kind else kind_at marks place
