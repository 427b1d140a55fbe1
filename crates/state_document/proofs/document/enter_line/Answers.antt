use Rattle.std.proofs.Common.{◌∙◌, [], ap}
use Rattle.markdown_engine.specs.Machine.{config}
use Rattle.markdown_engine.specs.OrderLaws.{entered_opened}
use Rattle.markdown_engine.specs.Order.{open_after}
use Rattle.markdown_engine.specs.Reading.{Config}
use Rattle.engine_events.specs.declared.event.Name.TheVariants.{Data}
use Rattle.engine_programs.specs.Rounds.{on_ok}
use Rattle.state_table.specs.BlockWords.{flow_link}
use Rattle.state_document.proofs.document.enter_line.Goals as goal

pub returns-clause-open_events : goal.returns-clause-open_events
returns-clause-open_events g c = on_ok c.enter_link.result _ _
    (λ h. ap (λ (d : Config _). open_after [] d.events) h.config ∙ entered_opened Data (flow_link (config c.args.tokenizer.now)) (config c.args.tokenizer.now))
    c.enter_link.ensures.became
