-- The resolver of content: the lines of each paragraph are read as one text (CommonMark 4.7 and 4.8).
use Rattle.std.specs.Prelude.{◌≡◌, ℕ, Bool, true, false, List, MatchBool, Some}
use Rattle.engine_events.specs.declared.event.Content.TheVariants as contents
use Rattle.engine_events.specs.declared.event.Event.{Event}
use Rattle.engine_events.specs.declared.place.Point.{Point}
use Rattle.markdown_engine.specs.Chains.{AreReadable, SubtokenizesIn}
use Rattle.markdown_engine.specs.Context.{Context}
use Rattle.markdown_engine.specs.Reading.{Config, Steps}
use Rattle.markdown_engine.specs.Resolving.{FoundLabels, resolves_nothing}
use Rattle.markdown_engine.specs.Standing.{LinksLeadIn}
use Rattle.engine_programs.specs.Bodies.{step_by}
use Rattle.state_content.specs.declared.contents.Contents.{Contents}
use Rattle.state_content.specs.Contents.{contents_bodies}
use Rattle.state_edits_blocks.specs.Content.{CanJoin, joined}
use Rattle.state_resolvers.specs.Whole.{is_whole}

-- the chains of lines can be read
abbrev pub AreLinesReadable : List ℕ → List Event → Type 0
AreLinesReadable bytes events = AreReadable bytes (Some contents.Content) events

abbrev pub contents_step : {T : Type 0} → Context T → Steps Contents
contents_step x = step_by (contents_bodies x)

module _ {T : Type 0} (x : Context T) where
  -- the lines of each paragraph are joined and read as one text by `Contents`; what was read comes in their place, with links to where its events stand
  pub record ReadsContents (old new : List Event) : Type 0 where
    pub joins : CanJoin old
    pub readable : AreLinesReadable x.bytes (joined old)
    pub found : FoundLabels
    pub read : SubtokenizesIn contents_step (λ y. resolves_nothing) x (record {}) (Some contents.Content) (joined old) new found
    pub links : LinksLeadIn contents_step (λ y. resolves_nothing) x (record {}) (Some contents.Content) (joined old) new found

  -- contents are read, which leaves whole events; or nothing that is read does so, and the events stay
  abbrev pub ResolvesContent : Point → List Event → List Event → Bool → Type 0
  ResolvesContent to old new done = MatchBool done
      (ReadsContents old new × (is_whole new to ≡ true))
      ((new ≡ old) × ((all : List Event) → ReadsContents old all → is_whole all to ≡ false))

abbrev pub with_events : {M : Type 0} → List Event → Config M → Config M
with_events events c = record c { events = events }
