-- A request of the code, without where it lies in memory.
use Rattle.gear_packets.specs.declared.request.Request.{Request}
use Rattle.gear_packets.specs.declared.request.Request.TheVariants as request
use Rattle.gear_packets.specs.Request.{Packet, can_do, cant_do, pre_sleep, grab_job, set_client_id, work_status, work_complete, work_fail}
use Rattle.gear_packets.specs.Request.{work_data, work_warning}

abbrev pub packet_of : Request → Packet
packet_of (request.CanDo name) = can_do name.now
packet_of (request.CantDo name) = cant_do name.now
packet_of request.PreSleep = pre_sleep
packet_of request.GrabJobUniq = grab_job
packet_of (request.SetClientId text) = set_client_id text.now
packet_of (request.WorkStatus handle part all) = work_status handle part all
packet_of (request.WorkComplete handle bytes) = work_complete handle bytes.now
packet_of (request.WorkFail handle) = work_fail handle
packet_of (request.WorkData handle bytes) = work_data handle bytes.now
packet_of (request.WorkWarning handle bytes) = work_warning handle bytes.now
