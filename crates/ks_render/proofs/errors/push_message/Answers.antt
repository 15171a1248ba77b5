use Rattle.ks_render.specs.Errors.{message_of_cause}
use Rattle.ks_render.proofs.errors.push_message.Goals as goal

pub returns-in-Keys : goal.returns-in-Keys
unfolding message_of_cause
returns-in-Keys c = rw c.in-Keys.is (rw c.keys_name.ensures at c.push_between.ensures)

pub returns-in-IdTaken : goal.returns-in-IdTaken
unfolding message_of_cause
returns-in-IdTaken c = rw c.in-IdTaken.is c.push-in-IdTaken.ensures

pub returns-in-Random : goal.returns-in-Random
unfolding message_of_cause
returns-in-Random c = rw c.in-Random.is c.push-in-Random.ensures

pub returns-in-KeyDir : goal.returns-in-KeyDir
unfolding message_of_cause
returns-in-KeyDir c = rw c.in-KeyDir.is c.push-in-KeyDir.ensures

pub returns-in-Memory : goal.returns-in-Memory
unfolding message_of_cause
returns-in-Memory c = rw c.in-Memory.is c.push-in-Memory.ensures
