-- Places, columns and links.
use Rattle.std.specs.Prelude.{◌≡◌, ◌∷◌, [], codes, None, Some}
use Rattle.std.proofs.Common.{refl}
use Rattle.markdown_options.specs.declared.unist.Point as unist
use Rattle.engine_events.specs.declared.event.Event.{Event}
use Rattle.engine_events.specs.declared.event.Kind.TheVariants.{Enter}
use Rattle.engine_events.specs.declared.event.Name.TheVariants.{Data}
use Rattle.engine_events.specs.Columns.{tab_size, column_after}
use Rattle.engine_events.specs.Events.{link_of, point_of, with_link}
use Rattle.engine_events.specs.Points.{shift_to, unist_point}
use Rattle.examples_engine.proofs.Given.{place, at, link, beside}

-- ---- columns (CommonMark 2.2)

after_tab : shift_to (codes "a\tb") 2 (place 1 0 0) ≡ place 5 2 0
after_tab = refl

-- U+FEFF at the text's start has no columns
after_mark : shift_to (239 ∷ 187 ∷ 191 ∷ codes "ab") 4 (place 1 0 0) ≡ place 2 4 0
after_mark = refl

without_columns : (unist_point (place 5 2 3)).offset ≡ 2
without_columns = refl

first_column : tab_size 1 ≡ 4
first_column = refl

second_column : tab_size 2 ≡ 3
second_column = refl

last_column : tab_size 4 ≡ 1
last_column = refl

next_stop : tab_size 5 ≡ 4
next_stop = refl

past_tab : column_after 9 2 ≡ 5
past_tab = refl

past_letter : column_after 97 2 ≡ 3
past_letter = refl

-- ---- links

abbrev chunk : Event
chunk = at Enter Data 0 (beside None (Some 7))

kept : link_of chunk ≡ beside None (Some 7)
kept = refl

changed : link_of (with_link (beside (Some 3) (Some 7)) chunk) ≡ beside (Some 3) (Some 7)
changed = refl

stays : point_of (with_link (beside (Some 3) (Some 7)) chunk) ≡ place 1 0 0
stays = refl
