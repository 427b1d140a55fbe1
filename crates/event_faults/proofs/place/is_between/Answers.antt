use Rattle.event_faults.proofs.PlaceLaws.{between_is, between_within}
use Rattle.event_faults.proofs.place.is_between.Goals as goal

pub returns-clause-between : goal.returns-clause-between
returns-clause-between c = λ bytes f. between_is bytes c.args.front.now c.args.index _ f c.is_char_boundary.ensures.test

pub returns-clause-within : goal.returns-clause-within
returns-clause-within c = λ bytes f e. between_within bytes c.args.front.now c.args.index _ f c.is_char_boundary.ensures.test e
