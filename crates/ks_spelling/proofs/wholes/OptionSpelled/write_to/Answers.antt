use Rattle.ks_spelling.proofs.wholes.OptionSpelled.write_to.Goals as goal

pub returns-in-None : goal.returns-in-None
returns-in-None g c = rw c.in-None.is c.write_place.ensures
