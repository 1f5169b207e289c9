-- The services as the code keeps them.
use Rattle.service_settings.specs.Services.{Services}
use Rattle.service_settings.specs.declared.services.Services.TheInside.{Inside}

abbrev pub services_view : Inside → Services
services_view s = record {
  numbers = s.numbers;
  urls = s.urls.items;
  timeouts = s.timeouts.items;
  retries = s.retries.items;
  resends = s.resends.items;
  page = s.page;
}
