use Rattle.std.proofs.Common.{rules}
use Rattle.ks_pool.proofs.tcp_link.TcpLinkSink.TheImpl.Goals as goal

pub write-tells : goal.write-tells
write-tells g c = search rules
