use Rattle.std.proofs.Common.{refl}
use Rattle.ks_aes_cbc.specs.Cbc.{pad, cbc}
use Rattle.ks_aes_cbc.proofs.Chains.{uncbc_is, uncbc-some, uncbc-none, cbc-length}
use Rattle.ks_aes_cbc.proofs.laws.uncbc_undoes_cbc.Goals as goal

pub returns-clause-found : goal.returns-clause-found
returns-clause-found c = λ key iv p hk hv hp. uncbc_is key iv p (cbc key iv (pad p)) hk hv hp refl

pub returns-clause-some : goal.returns-clause-some
returns-clause-some c = λ key iv sealed p e. uncbc-some key iv sealed p e

pub returns-clause-none : goal.returns-clause-none
returns-clause-none c = λ key iv sealed p hk hv e hp. uncbc-none key iv sealed p hk hv e hp

pub returns-clause-length : goal.returns-clause-length
returns-clause-length c = λ key iv p hk hv hp. cbc-length key iv p hk hv hp
