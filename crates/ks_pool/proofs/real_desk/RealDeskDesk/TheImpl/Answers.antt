use Rattle.std.proofs.Common.{rules}
use Rattle.ks_pool.proofs.real_desk.RealDeskDesk.TheImpl.Goals as goal

pub accept-tells : goal.accept-tells
accept-tells g c = search rules

pub give_back-tells : goal.give_back-tells
give_back-tells g c = search rules

pub reading-tells : goal.reading-tells
reading-tells g c = search rules

pub fill-tells : goal.fill-tells
fill-tells g c = search rules

pub ready-tells : goal.ready-tells
ready-tells g c = search rules

pub note-tells : goal.note-tells
note-tells g c = search rules

pub tell-tells : goal.tell-tells
tell-tells g c = search rules
