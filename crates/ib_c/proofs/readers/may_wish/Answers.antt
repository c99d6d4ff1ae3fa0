use Rattle.ib_c.proofs.readers.may_wish.Goals as goal

pub returns-in-Ok : goal.returns-in-Ok
returns-in-Ok c = (c.in-Some.ensures.some, c.in-Ok.field-0, c.in-Ok.ensures.granted)
