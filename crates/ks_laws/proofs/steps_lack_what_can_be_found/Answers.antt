use Rattle.ks_laws.proofs.LackLaws.{answers_are_replies, kept_salts_whole, lacks_in_range, lacks_unknown}
use Rattle.ks_laws.proofs.steps_lack_what_can_be_found.Goals as goal

pub returns-clause-ranges : goal.returns-clause-ranges
returns-clause-ranges c = lacks_in_range

pub returns-clause-salts : goal.returns-clause-salts
returns-clause-salts c = kept_salts_whole

pub returns-clause-unknown : goal.returns-clause-unknown
returns-clause-unknown c = lacks_unknown

pub returns-clause-answers : goal.returns-clause-answers
returns-clause-answers c = answers_are_replies
