-- Where a walk over the events of a text is: which events have rows.
use Rattle.std.specs.Prelude.{ℕ, ◌+◌, ◌-◌, Bool, true, false, ◌==◌, ◌&&◌, ◌||◌, if◌then◌else◌, is_some}
use Rattle.engine_events.specs.Names.{same_name, is_listed}
use Rattle.engine_events.specs.declared.event.Name.{Name}
use Rattle.engine_events.specs.declared.event.Name.TheVariants as n
use Rattle.event_grammar.specs.References.{media_names}
use Rattle.event_grammar.specs.Spans.{span_of}
use Rattle.event_meaning.specs.Texts.{text_names}
use Rattle.compile_rows.specs.declared.rows.Mode.{Mode}
use Rattle.compile_rows.specs.declared.rows.Mode.TheVariants.{Text, Before, Behind}
use Rattle.compile_rows.specs.declared.rows.Place.{Place}

abbrev pub place : Mode → ℕ → ℕ → Place
place mode skipped links = record { mode = mode; skipped = skipped; links = links }

-- whether the text of an event of this name has rows, between a row for its start and one for its end
abbrev pub is_around : Name → Bool
is_around name = is_some (span_of name) || (same_name name n.Link || same_name name n.Image)

-- whether strings of an event of this name were read ahead: it is a link, an image, a call, or raw text
abbrev pub is_counted : Name → Bool
is_counted name = is_listed media_names name || (same_name name n.CodeText || same_name name n.MathText)

-- how many links are open where so many are around
abbrev pub links_in : Name → ℕ → ℕ
links_in name links = if same_name name n.Link then links + 1 else links

abbrev pub links_after : Name → ℕ → ℕ
links_after name links = if same_name name n.Link then links - 1 else links

abbrev pub in_text : Mode → Bool
in_text Text = true
in_text mode = false

-- whether an event that is entered here is a part of a text
abbrev pub is_in_text : Place → Bool
is_in_text p = (p.skipped == 0) && in_text p.mode

-- an event of this name is entered where none is skipped
abbrev pub entered_in : Mode → Name → ℕ → Place
entered_in Text name links = if is_around name then place Before 0 (links_in name links) else place Text 1 links
entered_in Before name links =
    if is_listed text_names name then place Text 0 links else (if same_name name n.Label then place Before 0 links else place Before 1 links)
entered_in Behind name links = place Behind 1 links

-- the place after an event of this name is entered; all in an event that is skipped is
abbrev pub entered : Place → Name → Place
entered p name = if p.skipped == 0 then entered_in p.mode name p.links else place p.mode (p.skipped + 1) p.links

abbrev pub exited_in : Mode → Name → ℕ → Place
exited_in Text name links = place Behind 0 links
exited_in mode name links = if same_name name n.Label then place Behind 0 links else place Text 0 (links_after name links)

-- the place after one is exited
abbrev pub exited : Place → Name → Place
exited p name = if p.skipped == 0 then exited_in p.mode name p.links else place p.mode (p.skipped - 1) p.links
