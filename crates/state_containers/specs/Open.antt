-- The containers that are open, of which `space_or_tab_max` went on so far on the line.
use Rattle.std.specs.Prelude.{ℕ, ◌+◌, ◌-◌, ◌*◌, ◌^◌, min, Bool, true, false, refl, not, ◌==◌, ◌&&◌, if◌then◌else◌}
use Rattle.std.specs.Prelude.{List, [], ◌∷◌, ◌++◌, take, drop, slice_get, slice_set, Option, None, Some}
use Rattle.std.specs.List.{fold, prefix_len, take_while}
use denote.Enum.Bare.{sameb}
use Rattle.engine_states.specs.contracts.container.Container.{the_type}
use Rattle.engine_states.specs.declared.container.Container.{Container}
use Rattle.engine_states.specs.declared.container.Container.TheVariants as containers
use Rattle.engine_states.specs.declared.container.ContainerState.{ContainerState}
use Rattle.markdown_engine.specs.KeptState.{KeptState}
use Rattle.engine_states.specs.declared.state.Block.TheVariants as state_block
use Rattle.engine_states.specs.declared.state.Inline.TheVariants as state_inline
use Rattle.engine_states.specs.declared.state.State.TheVariants as states
use Rattle.engine_programs.specs.Bodies.{Answer, Body, Keep, On, Test, Tries, has}
use Rattle.state_table.specs.Words.{is_space_or_tab, more}
use Rattle.state_table.specs.BlockWords.{next, part}

-- the one that is asked next whether it goes on
abbrev pub next_open : KeptState → Option ContainerState
next_open k = slice_get k.containers k.space_or_tab_max

abbrev pub is_one : Option ContainerState → Bool
is_one None = false
is_one (Some o) = true

abbrev pub is_of : Container → Option ContainerState → Bool
is_of kind None = false
is_of kind (Some o) = sameb the_type o.kind kind

abbrev pub size_of : Option ContainerState → ℕ
size_of None = 0
size_of (Some o) = o.size

abbrev pub is_blank : Option ContainerState → Bool
is_blank None = false
is_blank (Some o) = o.blank_initial

abbrev pub is_more_open : KeptState → Bool
is_more_open k = is_one (next_open k)

abbrev pub is_open : KeptState → Container → Bool
is_open k kind = is_of kind (next_open k)

abbrev pub open_size : KeptState → ℕ
open_size k = size_of (next_open k)

abbrev pub begins_blank : KeptState → Bool
begins_blank k = is_blank (next_open k)

-- it goes on on a blank line
abbrev pub goes_on_blank : ContainerState → Bool
goes_on_blank o = not (sameb the_type o.kind containers.BlockQuote) && not o.blank_initial

-- those that are asked, and of these the ones that go on on a blank line
abbrev pub rest_open : KeptState → List ContainerState
rest_open k = drop k.space_or_tab_max k.containers

abbrev pub blank_open : KeptState → List ContainerState
blank_open k = take_while goes_on_blank (rest_open k)

-- how many went on once these do
abbrev pub blank_end : KeptState → ℕ
blank_end k = k.space_or_tab_max + prefix_len goes_on_blank (rest_open k)

-- how many columns these are indented, together, up to the most that a number of the program holds
abbrev pub width_with : ℕ → ContainerState → ℕ
width_with width o = min (width + o.size) (2 ^ 64 - 1)

abbrev pub blank_size : KeptState → ℕ
blank_size k = fold width_with 0 (blank_open k)

-- the one that is asked isn't blank any more
abbrev pub fill_next : KeptState → Option ContainerState → List ContainerState
fill_next k None = k.containers
fill_next k (Some o) = slice_set k.containers k.space_or_tab_max (record o { blank_initial = false })

abbrev pub filled : KeptState → List ContainerState
filled k = fill_next k (next_open k)

-- how many columns the content of an item is indented
abbrev pub item_width : ℕ → KeptState → ℕ
item_width column k = if k.size == 1 then more (column - k.start) else column - k.start

-- a number with one more digit: 2 stands for all that aren't 0 or 1
abbrev pub value_with : ℕ → Option ℕ → ℕ
value_with value None = value
value_with value (Some digit) = min (value * 10 + (digit - 48)) 2

abbrev pub is_mark : ℕ → ℕ → Bool
is_mark index byte = has (λ b. b == byte) (slice_get (239 ∷ 187 ∷ 191 ∷ []) index)

-- the container that begins, by the kind that was tried
abbrev pub begun_of : ℕ → ℕ → Bool → ContainerState
begun_of kind size blank = if kind == 0 then (let o : ContainerState = record { kind = containers.BlockQuote; blank_initial = false; size = 0 } in o)
    else if kind == 1 then (let o : ContainerState = record { kind = containers.ListItem; blank_initial = blank; size = size } in o)
    else (let o : ContainerState = record { kind = containers.GfmFootnoteDefinition; blank_initial = false; size = size } in o)

abbrev pub begun : KeptState → ContainerState
begun k = begun_of k.marker_b k.start k.space_or_tab_eol_ok

-- it is opened in place of those that don't go on
abbrev pub begun_containers : KeptState → List ContainerState
begun_containers k = take k.space_or_tab_max k.containers ++ begun k ∷ []

-- ---- how items and footnote definitions go on

module _ {M : Type 0} where
  -- on a blank line, on which all go on that may
  abbrev pub go_on_blank : Body M
  go_on_blank =
      Test (λ c. begins_blank c.tokenize_state) (Answer states.Nok)
      (Keep (λ c. record c.tokenize_state { end = blank_size c.tokenize_state; space_or_tab_max = blank_end c.tokenize_state }) (λ c i. refl)
      (Answer states.Nok))

  -- on a line that is indented as far as the content
  abbrev pub go_on_indented : Body M
  go_on_indented =
      On is_space_or_tab
      (Keep (λ c. record c.tokenize_state { seen = true; size_c = open_size c.tokenize_state }) (λ c i. refl)
      (Tries false (next state_block.ListItemWhitespaceAfter) states.Nok (part state_inline.SpaceOrTabStart)))
      (Answer states.Nok)
