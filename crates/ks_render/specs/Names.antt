-- The names by which errors tell kinds and faults.
use Rattle.std.specs.Prelude.{ℕ, List, codes}
use Rattle.ks_base.specs.declared.faults.KeysFault.{KeysFault}
use Rattle.ks_base.specs.declared.faults.KeysFault.TheVariants as keys
use Rattle.ks_base.specs.declared.faults.TreeFault.{TreeFault}
use Rattle.ks_base.specs.declared.faults.TreeFault.TheVariants as tree
use Rattle.ks_base.specs.declared.faults.TrustFault.{TrustFault}
use Rattle.ks_base.specs.declared.faults.TrustFault.TheVariants as trust

-- the names by which errors tell faults
unfoldable pub tree_name : TreeFault → List ℕ
tree_name (tree.Absent table id) = codes "Absent"
tree_name (tree.NoParent id) = codes "NoParent"
tree_name tree.TooDeep = codes "TooDeep"
tree_name (tree.HasChildren id) = codes "HasChildren"
tree_name (tree.EnabledBelow id) = codes "EnabledBelow"
tree_name (tree.DisabledAbove id) = codes "DisabledAbove"
tree_name tree.DomainEnabled = codes "DomainEnabled"
tree_name (tree.NameTaken id) = codes "NameTaken"
tree_name (tree.Full table) = codes "Full"
tree_name (tree.IdTaken id) = codes "IdTaken"
tree_name tree.Memory = codes "Memory"

unfoldable pub trust_name : TrustFault → List ℕ
trust_name trust.NotTrustor = codes "NotTrustor"
trust_name trust.NotParent = codes "NotParent"
trust_name trust.NoRoles = codes "NoRoles"
trust_name trust.DepthOut = codes "DepthOut"
trust_name (trust.RoleNotInParent id) = codes "RoleNotInParent"
trust_name trust.Impersonation = codes "Impersonation"
trust_name trust.UsesSet = codes "UsesSet"
trust_name trust.LaterThanParent = codes "LaterThanParent"
trust_name (trust.RoleLost id) = codes "RoleLost"
trust_name trust.Expired = codes "Expired"
trust_name (trust.Absent id) = codes "Absent"
trust_name trust.NotTrustee = codes "NotTrustee"
trust_name trust.Spent = codes "Spent"
trust_name (trust.UserOff id) = codes "UserOff"
trust_name (trust.Full table) = codes "Full"
trust_name (trust.IdTaken id) = codes "IdTaken"
trust_name trust.Memory = codes "Memory"

unfoldable pub keys_name : KeysFault → List ℕ
keys_name keys.Failed = codes "Failed"
keys_name keys.NoKeys = codes "NoKeys"
keys_name (keys.BadKey index) = codes "BadKey"
keys_name keys.TooMany = codes "TooMany"
keys_name keys.AlreadySet = codes "AlreadySet"
keys_name keys.IndexEnd = codes "IndexEnd"
keys_name keys.Memory = codes "Memory"
