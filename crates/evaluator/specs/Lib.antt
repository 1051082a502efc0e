pub mod ChannelValues
