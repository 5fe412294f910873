use Rattle.dsr_check.proofs.party.post_by.Goals as goal

-- what it posts by this choice is within the limits
pub of-requires : goal.of-requires
of-requires c = c.requires.within c.args.pick.now c.in-Ok.envelope c.allows.ensures.pick (c.in-Ok.ensures.given c.requires.log c.requires.stands)
