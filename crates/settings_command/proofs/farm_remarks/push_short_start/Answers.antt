use Rattle.std.proofs.Common.{◌≡◌, ◌++◌, List, OnOk, append_assoc, codes, string_bytes, subst, ℕ}
use Rattle.std.specs.List.{flat_map}
use Rattle.settings_command.specs.Remarks.{listed_name, short_start}
use Rattle.settings_command.proofs.farm_remarks.push_short_start.Goals as goal

pub returns : goal.returns
returns c =
    let p = c.args.settings.now in
    let out = string_bytes c.args.out.now in
    let lead = codes "remark no plan meets the least numbers of" in
    let names = flat_map (listed_name p) c.args.set.now in
    let chain : string_bytes c.push_str.new.self ++ flat_map (listed_name p) c.functions.result.now ≡ out ++ short_start p c.args.set.now =
    rw (c.in_ok-push_str.ensures.bytes, c.functions.ensures.all) (append_assoc out lead names) in
    subst (λ (t : List ℕ). OnOk c.push_names.result (string_bytes c.push_names.new.out ≡ t)) chain c.push_names.ensures
