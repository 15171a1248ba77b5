use Rattle.std.proofs.Common.{rules}
use Rattle.ks_pool.proofs.tcp_link.TcpLinkSource.TheImpl.Goals as goal

pub read-tells : goal.read-tells
read-tells g c = search rules

pub rests-tells : goal.rests-tells
rests-tells g c = search rules
